use Rattle.std.proofs.Common.{◌≡◌, ◌≤◌, ◌+◌, ◌^◌, length}
use Rattle.krates_queries.specs.KrateNodes.{numbered_crates}
use Rattle.krates_queries.proofs.queries.krate_nodes.KrateNodesIterator.next.Given as goal

-- the crates among the remaining nodes are all that is to come
abbrev pub invariant-loop-first : goal.invariant-loop-first
invariant-loop-first g l =
    (numbered_crates l.self-inside.number l.self-inside.left.now ≡ l.fn.self)
    × (l.self-inside.number + length l.self-inside.left.now ≤ 2 ^ 32)

abbrev pub decreases-loop-first : goal.decreases-loop-first
decreases-loop-first g l = length l.self-inside.left.now
