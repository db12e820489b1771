use Rattle.std.proofs.Common.{◌∙◌, ap}
use Rattle.std.proofs.Math.Seq.{map-set_same}
use Rattle.krates_graph.proofs.graph.adjacency.Adjacency.reserve_edge.Goals as goal

pub returns-clause-unchanged : goal.returns-clause-unchanged
returns-clause-unchanged c =
    map-set_same (λ list. list.items) c.args.self.now.lists.items c.args.node c.reserve.new.self c.index_mut.result.now
    (c.reserve.ensures.items ∙ ap (λ list. list.items) c.index_mut.ensures.value)
