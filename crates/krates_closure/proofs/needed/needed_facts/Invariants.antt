use Rattle.std.proofs.Common.{◌≡◌, length}
use Rattle.krates_closure.specs.Needed.{AreNeeded}
use Rattle.krates_closure.proofs.needed.needed_facts.Given as goal

-- those of the steps from here on
abbrev pub invariant-loop-place : goal.invariant-loop-place
invariant-loop-place l = record {
  sized : length l.marks.items ≡ l.clauses.size;
  needed : AreNeeded l.list l.steps l.fn.fact l.place l.marks.items;
}
