use Rattle.krates_selection.specs.PartOfSteps.{AreOwnNumbers}
use Rattle.krates_selection.proofs.part_of_steps.part_for.Given as goal

-- the numbers so far
abbrev pub invariant-loop-number : goal.invariant-loop-number
invariant-loop-number l = AreOwnNumbers l.number l.numbers.items
