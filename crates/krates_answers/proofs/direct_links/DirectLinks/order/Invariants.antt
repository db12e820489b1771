use Rattle.krates_answers.proofs.OrderLemmas.{IsOrderSoFar, unmarked}
use Rattle.krates_answers.proofs.direct_links.DirectLinks.order.Given as goal

abbrev pub invariant-loop-next : goal.invariant-loop-next
invariant-loop-next l = IsOrderSoFar l.self l.order.items l.is_done.items l.ready

-- each turn marks one more
abbrev pub decreases-loop-next : goal.decreases-loop-next
decreases-loop-next l = unmarked l.is_done.items
