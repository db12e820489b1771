use Rattle.std.proofs.Common.{◌≡◌, ℕ, ◌+◌, ◌-◌, List, Bool, length, ap, ◌∙◌, arith, subst, sym}
use Rattle.std.proofs.lemmas.List.{with_items_is}
use Rattle.krates_selection.specs.PartOfSteps.{AreMarkedFrom}
use Rattle.krates_selection.proofs.Marks.{marked_start}
use Rattle.krates_selection.proofs.part_of_steps.needed_for.Goals as goal

pub loop-left-init : goal.loop-left-init
loop-left-init c = record { within = omega arith; marked = marked_start c.args.steps.now c.args.last c.in_ok-marks.marks.items c.requires.within (c.in_ok-marks.ensures.items_if_clones_equal (λ y e. e)) }

pub mark_step-requires-clause-marked : goal.mark_step-requires-clause-marked
mark_step-requires-clause-marked c =
    let e : c.loop-left.left ≡ c.loop-left.left - 1 + 1 = omega arith in
    subst (λ (ms : List Bool). AreMarkedFrom c.args.steps.now c.args.last (c.loop-left.left - 1 + 1) ms) (sym c.deref_mut.ensures.value)
    (subst (λ (n : ℕ). AreMarkedFrom c.args.steps.now c.args.last n c.loop-left.marks.items) e c.loop-left.invariant.marked)

pub returns : goal.returns
returns c =
    let e : c.loop-left.left ≡ 0 = omega (arith, c.loop-left-test.false) in
    subst (λ (n : ℕ). AreMarkedFrom c.args.steps.now c.args.last n c.loop-left.marks.items) e c.loop-left.invariant.marked

pub loop-left-preserved : goal.loop-left-preserved
loop-left-preserved c =
    let l = c.loop-left in
    let after = c.mark_step.new.marks in
    let long : length after ≡ l.marks.len = c.mark_step.auto.marks ∙ ap length c.deref_mut.ensures.value ∙ sym l.marks.ok.0 in
    record {
      within = omega (arith, l.invariant.within);
      marked = subst (λ (ms : List Bool). AreMarkedFrom c.args.steps.now c.args.last (l.left - 1) ms) (sym (with_items_is l.marks after long)) c.mark_step.ensures;
    }
