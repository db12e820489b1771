use Rattle.std.proofs.Common.{◌≡◌, length}
use Rattle.krates_selection.specs.PartOfSteps.{AreFirstBelow}
use Rattle.krates_selection.proofs.part_of_steps.first_marks.Given as goal

-- the first steps so far are marked
abbrev pub invariant-loop-fact : goal.invariant-loop-fact
invariant-loop-fact l = record {
  room : length l.seen.items ≡ l.fn.count;
  first : AreFirstBelow l.facts l.fact-index l.seen.items l.marks.items;
}
