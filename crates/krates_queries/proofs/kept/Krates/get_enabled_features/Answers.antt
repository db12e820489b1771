use Rattle.std.proofs.Common.{◌≡◌, refl}
use Rattle.krates_drawing.specs.Node.{names_in}
use Rattle.krates_queries.proofs.NodeLemmas.{features_told}
use Rattle.krates_queries.proofs.kept.Krates.get_enabled_features.Goals as goal

pub returns-in-Some : goal.returns-in-Some
returns-in-Some g c =
    let nodes = c.nodes-nodes.result.now in
    let same : nodes ≡ c.args.self.now.graph.nodes = c.nodes-nodes.ensures.nodes in
    rw (← same) (features_told (λ f. names_in f.now) c.features_at.result nodes _ c.in-Some.number _ c.nodes-nodes.ensures.are ((c.in-Some.ensures c.in-Some.number).0 refl) c.features_at.ensures)

pub returns-in-None : goal.returns-in-None
returns-in-None g c n h =
    let nodes = c.nodes-nodes.result.now in
    let same : nodes ≡ c.args.self.now.graph.nodes = c.nodes-nodes.ensures.nodes in
    let none = (c.in-None.ensures n).1 (rw same h) in
    absurd cc
