use Rattle.krates_graph.proofs.GraphLemmas.{numbered-numbers_at, numbers_at-below}
use Rattle.krates_graph.proofs.graph.Graph.edges_directed.Goals as goal

pub invariant_of-result : goal.invariant_of-result
invariant_of-result g c =
    rw (c.edge_numbers.ensures, c.as_slice.ensures.value, ← c.self.view_is)
    (numbers_at-below c.self.inside.edges.items c.args.node c.args.direction)

pub returns : goal.returns
returns g c =
    rw (c.edge_numbers.ensures, c.as_slice.ensures.value, ← c.self.view_is)
    (numbered-numbers_at c.self.inside.edges.items c.args.node c.args.direction)
