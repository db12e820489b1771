use Rattle.std.proofs.Common.{◌<◌, length, ap, arith}
use Rattle.krates_graph.proofs.GraphLemmas.{IsIndexed-push_edge}
use Rattle.krates_graph.proofs.graph.Graph.add_edge.Goals as goal

pub invariant_of-self-in-Ok : goal.invariant_of-self-in-Ok
invariant_of-self-in-Ok g c =
    let source_stands : c.args.source < length c.self.inside.nodes.items = rw (ap (λ a. length a.nodes) c.self.view_is) c.requires.source_stands in
    let target_stands : c.args.target < length c.self.inside.nodes.items = rw (ap (λ a. length a.nodes) c.self.view_is) c.requires.target_stands in
    rw (
      c.in-Ok.ensures.items,
      c.add_edge.ensures,
      c.index-in-Ok.ensures,
      c.new-id.ensures,
      c.reserve_edge.ensures.unchanged,
      c.add_edge-in-Ok.ensures,
      c.index-in-Ok-2.ensures,
      c.new-id.ensures,
      c.reserve_edge-else-is_err.ensures.unchanged,
      c.len-number.ensures,
      c.self.inside.edges.ok.0,
    )
    (IsIndexed-push_edge c.self.inside.nodes.items c.self.inside.edges.items c.self.inside.node_limit c.self.inside.edge_limit _ _ _ c.self.invariant
    (omega (arith, c.len-number.ensures, c.if-number-self.false)) (source_stands, target_stands))
