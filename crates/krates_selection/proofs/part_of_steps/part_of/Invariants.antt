use Rattle.std.proofs.Common.{◌≡◌, length}
use Rattle.krates_selection.specs.PartOfSteps.{IsMadeBelow}
use Rattle.krates_selection.proofs.part_of_steps.part_of.Given as goal

-- the marked steps so far are chosen
abbrev pub invariant-loop-number : goal.invariant-loop-number
invariant-loop-number l = record {
  long : length l.making.numbers.items ≡ l.count;
  made : IsMadeBelow l.choice l.number l.making;
}
