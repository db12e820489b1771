use Rattle.std.proofs.Common.{arith}
use Rattle.krates_graph.proofs.GraphLemmas.{IsIndexed-push_node}
use Rattle.krates_graph.proofs.graph.Graph.add_node.Goals as goal

pub invariant_of-self-in-Ok : goal.invariant_of-self-in-Ok
invariant_of-self-in-Ok g c =
    rw (c.in-Ok.ensures.items, c.add_node.ensures, c.reserve_node.ensures.unchanged, c.add_node-in-Ok.ensures, c.reserve_node-else-is_err.ensures.unchanged)
    (IsIndexed-push_node c.self.inside.nodes.items c.self.inside.edges.items c.self.inside.node_limit c.self.inside.edge_limit _ _ c.args.value c.self.invariant (omega (arith, c.len-number.ensures)))
