use Rattle.std.proofs.Common.{ℕ, ◌<◌, length, arith, sym, subst}
use Rattle.std.proofs.lemmas.Result.{IfOk-weaker}
use Rattle.krates_selection.specs.PartOfSteps.{IsMade, AreFirst, HaveOwnNumbers, IsChosenFor}
use Rattle.krates_selection.specs.declared.part_of_steps.MarkedSteps.{MarkedSteps}
use Rattle.krates_selection.specs.declared.part_of_steps.PartOfSteps.{PartOfSteps}
use Rattle.krates_selection.proofs.FirstMarks.{first_choice, own_numbers, chosen_for}
use Rattle.krates_selection.proofs.part_of_steps.first_steps.Goals as goal

pub part_of-requires : goal.part_of-requires
part_of-requires c =
    let choice : MarkedSteps = record { steps = c.args.steps; facts = c.args.facts; marks = c.deref.result } in
    let first = subst (AreFirst c.args.facts.now) (sym c.deref.ensures.value) c.in_ok-marks.ensures in
    first_choice choice c.args.count c.requires.backward c.requires.long c.requires.facts first

pub returns-clause-own : goal.returns-clause-own
returns-clause-own c =
    let choice : MarkedSteps = record { steps = c.args.steps; facts = c.args.facts; marks = c.deref.result } in
    let first = subst (AreFirst c.args.facts.now) (sym c.deref.ensures.value) c.in_ok-marks.ensures in
    IfOk-weaker c.part_of.result (λ (part : PartOfSteps). IsMade choice part.chosen.items part.uses.items) (λ (part : PartOfSteps). HaveOwnNumbers c.args.facts.now part.chosen.items)
    (λ part made. own_numbers choice part.chosen.items part.uses.items first made) c.part_of.ensures

pub returns-clause-each : goal.returns-clause-each
returns-clause-each c =
    let choice : MarkedSteps = record { steps = c.args.steps; facts = c.args.facts; marks = c.deref.result } in
    let first = subst (AreFirst c.args.facts.now) (sym c.deref.ensures.value) c.in_ok-marks.ensures in
    let long = c.requires.long in
    IfOk-weaker c.part_of.result (λ (part : PartOfSteps). IsMade choice part.chosen.items part.uses.items) (λ (part : PartOfSteps). (k : ℕ) → k < length c.args.steps.now → IsChosenFor c.args.facts.now part.chosen.items k)
    (λ part made k lt. chosen_for choice part.chosen.items part.uses.items k first made (omega (arith, lt, long))) c.part_of.ensures
