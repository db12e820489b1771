use Rattle.std.proofs.Common.{◌≡◌, filter, take}
use Rattle.krates_closure.specs.Needed.{is_marked}
use Rattle.krates_closure.proofs.needed.marked_steps.Given as goal

-- those so far that give a fact with a mark
abbrev pub invariant-loop-step : goal.invariant-loop-step
invariant-loop-step l = l.marked.items ≡ filter (is_marked l.clauses l.marks) (take l.step-index l.steps)
