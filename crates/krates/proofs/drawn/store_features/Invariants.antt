use Rattle.std.proofs.Common.{◌≡◌, ◌+◌, ◌++◌, length, map}
use Rattle.krates.specs.MadeNodes.{feature_node}
use Rattle.krates.proofs.drawn.store_features.Given as goal

abbrev pub invariant-loop-feature : goal.invariant-loop-feature
invariant-loop-feature g l =
    (goal.iterator-loop-feature g).can_next l.feature-iterator
    × (goal.iterator-loop-feature g).is_finite l.feature-iterator
    × (l.graph.nodes ≡ l.fn.graph.nodes ++ map feature_node l.yielded)
    × (length l.graph.nodes ≡ length l.fn.graph.nodes + length l.yielded)
    × (l.graph ≡ record (l.fn.graph) { nodes = l.graph.nodes })
