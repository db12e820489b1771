use Rattle.std.proofs.Common.{◌≡◌, map, take}
use Rattle.krates_drawing.specs.Node.{crate_ids}
use Rattle.krates_queries.proofs.numbers.lent_ids.Given as goal

-- the ids so far
abbrev pub invariant-loop-node : goal.invariant-loop-node
invariant-loop-node g l = map (λ kid. kid.now) l.kids.items ≡ crate_ids (take l.node-index l.nodes)
