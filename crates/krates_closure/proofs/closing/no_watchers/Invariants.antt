use Rattle.std.proofs.Common.{◌≡◌, [], replicate}
use Rattle.krates_closure.specs.Closing.{watchers_of}
use Rattle.krates_closure.proofs.closing.no_watchers.Given as goal

abbrev pub invariant-loop-place : goal.invariant-loop-place
invariant-loop-place l = watchers_of l.lists.items ≡ replicate l._place []
