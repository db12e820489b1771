use Rattle.std.proofs.Common.{◌≡◌, length}
use Rattle.std.specs.List.{AllZip}
use Rattle.krates.specs.MadeNodes.{IsMade}
use Rattle.krates.proofs.drawn.store_crates.Given as goal

abbrev pub invariant-loop-node : goal.invariant-loop-node
invariant-loop-node g l =
    (goal.iterator-loop-node g).can_next l.node-iterator
    × (goal.iterator-loop-node g).is_finite l.node-iterator
    × AllZip (IsMade g.N.FromPackage.made_from) l.yielded l.graph.nodes
    × (length l.graph.nodes ≡ length l.yielded)
    × (l.graph ≡ record (l.fn.graph) { nodes = l.graph.nodes })
