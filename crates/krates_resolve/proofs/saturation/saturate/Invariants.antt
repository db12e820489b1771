use Rattle.krates_resolve.specs.Saturation.{left_in, HasDone, HasCounted}
use Rattle.krates_resolve.proofs.saturation.saturate.Given as goal

-- what was found is right and has the roots; what was taken has been expanded or followed, and counted
abbrev pub invariant-loop-found : goal.invariant-loop-found
invariant-loop-found l = HasDone l.context l.found × HasCounted l.context l.found l.work

abbrev pub decreases-loop-found : goal.decreases-loop-found
decreases-loop-found l = left_in l.found
