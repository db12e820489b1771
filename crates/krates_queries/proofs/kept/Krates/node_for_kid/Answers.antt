use Rattle.std.proofs.Common.{◌≡◌, refl}
use Rattle.krates_rules.specs.Resolved.{id_of}
use Rattle.krates_queries.proofs.NodeLemmas.{stands_among}
use Rattle.krates_queries.proofs.kept.Krates.node_for_kid.Goals as goal

pub standing_at-requires : goal.standing_at-requires
standing_at-requires g c = stands_among c.nodes-nodes.result.now (id_of c.args.kid.now) c.in-Some.number ((c.in-Some.ensures c.in-Some.number).0 refl)

pub returns-in-None : goal.returns-in-None
returns-in-None g c n h =
    let nodes = c.nodes-nodes.result.now in
    let same : nodes ≡ c.args.self.now.graph.nodes = c.nodes-nodes.ensures.nodes in
    let none = (c.in-None.ensures n).1 (rw same h) in
    absurd cc
