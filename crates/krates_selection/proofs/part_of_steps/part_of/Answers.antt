use Rattle.std.proofs.Common.{◌<◌, arith, subst, sym, true}
use Rattle.std.proofs.lemmas.Grind.{common_steps}
use Rattle.std.proofs.lemmas.Option.{slice_get_within}
use Rattle.krates_selection.specs.PartOfSteps.{IsChoice}
use Rattle.krates_selection.proofs.part_of_steps.part_of.Goals as goal

pub choose-requires : goal.choose-requires
choose-requires c = record {
  choice = subst (IsChoice c.args.choice.now) (sym c.loop-number.invariant.long) c.requires;
  here = c.loop-number-test.true;
  below = c.loop-number.invariant.made;
}

pub loop-number-preserved : goal.loop-number-preserved
loop-number-preserved c = grind (arith, common_steps)

pub returns : goal.returns
returns c =
    let made = c.loop-number.invariant.made in
    record {
      is_part = record { increase = made.increase; long = made.long; each = made.each };
      marked = made.marked;
      each = λ k marked. let low : k < c.loop-number.number = omega (arith, slice_get_within c.args.choice.now.marks.now k true marked) in
          let placed = made.placed k low marked in (placed.0, placed.2);
    }
