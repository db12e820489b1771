use Rattle.std.proofs.Common.{◌<◌, length}
use Rattle.std.proofs.lemmas.List.Elements.{All-rest}
use Rattle.krates_graph.proofs.graph.edges_directed.EdgesDirectedIterator.next.Goals as goal

pub invariant_of-self : goal.invariant_of-self
invariant_of-self g c =
    All-rest (λ number. number < length c.self.inside.edges.now) c.in_ok-id.id.now c.in_ok-id.rest.now c.self.inside.numbers.now
    c.in_ok-id.ensures.cases.0 c.self.invariant
