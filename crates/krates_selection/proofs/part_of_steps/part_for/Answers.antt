use Rattle.std.proofs.Common.{length, sym, subst, arith}
use Rattle.std.proofs.lemmas.Result.{IfOk-weaker}
use Rattle.krates_selection.specs.PartOfSteps.{IsMade, AreNeeded, AreUsedBehind, EndsAt, IsPartBy, SameNumber}
use Rattle.krates_selection.specs.declared.part_of_steps.MarkedSteps.{MarkedSteps}
use Rattle.krates_selection.specs.declared.part_of_steps.PartOfSteps.{PartOfSteps}
use Rattle.krates_selection.proofs.NeededParts.{ends_at, needed_choice, none_numbered, own_number, own_numbers, own_part, used_behind}
use Rattle.krates_selection.proofs.part_of_steps.part_for.Goals as goal

pub loop-number-init : goal.loop-number-init
loop-number-init c = rw c.in_ok-numbers.ensures.items none_numbered

pub loop-number-preserved : goal.loop-number-preserved
loop-number-preserved c = rw c.in_ok-push.ensures.items (own_number c.loop-number.numbers.items c.loop-number.number c.loop-number.invariant)

pub part_of-requires : goal.part_of-requires
part_of-requires c =
    let choice : MarkedSteps = record { steps = c.args.steps; facts = c.deref.result; marks = c.deref-2.result } in
    let own = own_numbers c.loop-number.number (length c.args.steps.now) c.loop-number.numbers.items c.deref.result.now (omega arith) c.deref.ensures.value c.loop-number.invariant in
    let needed = subst (AreNeeded c.args.steps.now c.args.last) (sym c.deref-2.ensures.value) c.in_ok-marks.ensures in
    needed_choice choice c.args.last c.requires.backward own needed

pub returns : goal.returns
returns c =
    let choice : MarkedSteps = record { steps = c.args.steps; facts = c.deref.result; marks = c.deref-2.result } in
    let own = own_numbers c.loop-number.number (length c.args.steps.now) c.loop-number.numbers.items c.deref.result.now (omega arith) c.deref.ensures.value c.loop-number.invariant in
    let needed = subst (AreNeeded c.args.steps.now c.args.last) (sym c.deref-2.ensures.value) c.in_ok-marks.ensures in
    let last = c.args.last in
    let back = c.requires.backward in
    let made : PartOfSteps → Type 0 = λ part. IsMade choice part.chosen.items part.uses.items in
    record {
      part = IfOk-weaker c.part_of.result made (λ (part : PartOfSteps). IsPartBy SameNumber c.args.steps.now part.chosen.items part.uses.items)
          (λ part m. own_part choice part.chosen.items part.uses.items back own m.is_part) c.part_of.ensures;
      last = IfOk-weaker c.part_of.result made (λ (part : PartOfSteps). EndsAt part.chosen.items last)
          (λ part m. ends_at choice last part.chosen.items part.uses.items needed m) c.part_of.ensures;
      used = IfOk-weaker c.part_of.result made (λ (part : PartOfSteps). AreUsedBehind part.uses.items)
          (λ part m. used_behind choice last part.chosen.items part.uses.items needed m (own_part choice part.chosen.items part.uses.items back own m.is_part)) c.part_of.ensures;
    }
