use Rattle.krates_answers.proofs.OrderLemmas.{IsPathSoFar, unmarked}
use Rattle.krates_answers.proofs.direct_links.DirectLinks.cycle_from.Given as goal

abbrev pub invariant-loop-is_seen : goal.invariant-loop-is_seen
invariant-loop-is_seen l = IsPathSoFar l.self l.is_done l.is_seen.items l.path.items l.next

-- each turn marks one more
abbrev pub decreases-loop-is_seen : goal.decreases-loop-is_seen
decreases-loop-is_seen l = unmarked l.is_seen.items
