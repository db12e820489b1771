use Rattle.std.proofs.Common.{◌≡◌, ◌∙◌, ℕ, List, Some, slice_get, ap}
use Rattle.krates_drawing.specs.declared.node.Node.{Node}
use Rattle.krates_queries.specs.Direct.{number_in, resolved_at, value_at, value_of}
use Rattle.krates_queries.proofs.kept.Krates.resolved_dependency.Goals as goal

meant_by : {N : Type 0} (nodes given : List (Node N)) (n i place number : ℕ) (node : Node N)
    → nodes ≡ given → i ≡ n → Some node ≡ slice_get nodes i → Some number ≡ number_in (Some node) place → value_at nodes number ≡ resolved_at given n place
meant_by nodes given n i place number node same index at entry =
    ap (value_of nodes) entry ∙ ap (λ found. value_of nodes (number_in found place)) at ∙ ap (λ k. resolved_at nodes k place) index ∙ ap (λ ns. resolved_at ns n place) same

pub returns : goal.returns
returns g c =
    let nodes = c.raw_nodes-nodes in
    let graph = c.args.self.now.graph in
    c.in-Some.ensures.value ∙ meant_by nodes.result.now graph.nodes c.args.node c.index.result c.args.place c.in_ok-number.number c.in_ok-node_at.field-0.now
    (nodes.ensures.nodes ∙ ap (λ kept. kept.nodes) c.graph.ensures.graph) c.index.ensures c.in_ok-node_at.ensures c.in_ok-number.ensures

pub returns-in_default : goal.returns-in_default
returns-in_default g c =
    let nodes = c.raw_nodes-nodes in
    let graph = c.args.self.now.graph in
    c.in_default.ensures.value ∙ meant_by nodes.result.now graph.nodes c.args.node c.index.result c.args.place c.in_ok-number.number c.in_ok-node_at.field-0.now
    (nodes.ensures.nodes ∙ ap (λ kept. kept.nodes) c.graph.ensures.graph) c.index.ensures c.in_ok-node_at.ensures c.in_ok-number.ensures
