use Rattle.std.proofs.Common.{◌+◌, ◌≤◌}
use Rattle.krates_selection.specs.PartOfSteps.{AreMarkedFrom}
use Rattle.krates_selection.proofs.part_of_steps.needed_for.Given as goal

-- all that the marked steps from here on use is marked
abbrev pub invariant-loop-left : goal.invariant-loop-left
invariant-loop-left l = record {
  within : l.left ≤ l.last + 1;
  marked : AreMarkedFrom l.steps l.last l.left l.marks.items;
}

abbrev pub decreases-loop-left : goal.decreases-loop-left
decreases-loop-left l = l.left
