use Rattle.krates_closure.specs.Marks.{IsMetBefore}
use Rattle.krates_closure.proofs.closing.first_unmarked.Given as goal

abbrev pub invariant-loop-place : goal.invariant-loop-place
invariant-loop-place l = IsMetBefore l.marks l.premises l.place
