use Rattle.krates_closure.specs.Closing.{IsClosing, turns_left}
use Rattle.krates_closure.proofs.closing.close.Given as goal

abbrev pub invariant-loop-number : goal.invariant-loop-number
invariant-loop-number l = IsClosing l.list l.closing l.closing.pending.items

abbrev pub decreases-loop-number : goal.decreases-loop-number
decreases-loop-number l = turns_left l.list l.closing l.closing.pending.items
