use Rattle.std.proofs.Common.{◌≡◌, ◌∙◌, ◌≤◌, All, List, map, sym, ap, subst}
use Rattle.krates_drawing.specs.Drawing.{planned_edges, planned_nodes}
use Rattle.krates_drawing.specs.Views.{planned_edge_view, kids_in, outline_view}
use Rattle.krates_drawing.specs.declared.edge.PlannedEdge.{PlannedEdge}
use Rattle.krates_drawing.specs.declared.outline.FeatureRow.{FeatureRow}
use Rattle.krates_selection.specs.Selection.{HasHome}
use Rattle.krates_queries.specs.Drawn.{planned_node}
use Rattle.krates_drawing.specs.Division.{krate_ids}
use Rattle.krates.specs.MadeNodes.{nodes_in}
use Rattle.krates.proofs.DrawnLemmas.{as_many_crates, facts_in, if_graph, stand_there}
use Rattle.krates.proofs.FeaturesDrawn.{viewed_ids}
use Rattle.krates.proofs.MadeLemmas.{count_of, drawn_nodes}
use Rattle.krates.proofs.Numbered.{if_memory, if_within}
use Rattle.krates.proofs.drawn.graph_of.Goals as goal

pub enabled_of-requires : goal.enabled_of-requires
enabled_of-requires g c =
    let outline = c.args.outline in
    let as_many = as_many_crates c.args.krates.items outline.krates.items c.requires.ids in
    subst (λ n. All (λ (row : FeatureRow). HasHome n row.feature) outline.features.items) (as_many ∙ sym (c.len.ensures ∙ c.args.krates.ok.0)) outline.ordered.homes

pub stored-requires-clause-nodes : goal.stored-requires-clause-nodes
stored-requires-clause-nodes g c =
    let matched = c.in_ok-sets.ensures.matched ∙ (c.len.ensures ∙ c.args.krates.ok.0) in
    let planned = c.in_ok-plan.plan.planned_nodes in
    let nodes = nodes_in c.in_ok-crates.crates.items planned.features.items in
    let d = drawn_nodes (outline_view c.args.outline) c.args.krates.items c.in_ok-sets.sets.items planned nodes matched c.in_ok-plan.ensures.nodes c.requires.ids (ap (λ crates. nodes_in crates planned.features.items) c.in_ok-crates.ensures) in
    let count = count_of planned_node nodes (planned_nodes (outline_view c.args.outline)) d.planned_are in
    subst (λ n. n ≤ c.args.limits.nodes) (sym count) c.in_ok-plan.ensures.within.nodes

pub stored-requires-clause-edges : goal.stored-requires-clause-edges
stored-requires-clause-edges g c =
    let same : map planned_edge_view c.deref.result.now ≡ planned_edges (outline_view c.args.outline) = ap (λ (xs : List PlannedEdge). map planned_edge_view xs) c.deref.ensures.value ∙ c.in_ok-plan.ensures.edges in
    let count = count_of planned_edge_view c.deref.result.now (planned_edges (outline_view c.args.outline)) same in
    subst (λ n. n ≤ c.args.limits.edges) (sym count) c.in_ok-plan.ensures.within.edges

pub stored-requires-clause-stand : goal.stored-requires-clause-stand
stored-requires-clause-stand g c =
    let matched = c.in_ok-sets.ensures.matched ∙ (c.len.ensures ∙ c.args.krates.ok.0) in
    let planned = c.in_ok-plan.plan.planned_nodes in
    let nodes = nodes_in c.in_ok-crates.crates.items planned.features.items in
    let d = drawn_nodes (outline_view c.args.outline) c.args.krates.items c.in_ok-sets.sets.items planned nodes matched c.in_ok-plan.ensures.nodes c.requires.ids (ap (λ crates. nodes_in crates planned.features.items) c.in_ok-crates.ensures) in
    let count = count_of planned_node nodes (planned_nodes (outline_view c.args.outline)) d.planned_are in
    let same : map planned_edge_view c.deref.result.now ≡ planned_edges (outline_view c.args.outline) = ap (λ (xs : List PlannedEdge). map planned_edge_view xs) c.deref.ensures.value ∙ c.in_ok-plan.ensures.edges in
    stand_there _ _ _ _ c.requires.stand (sym count) (sym same)

pub returns-clause-graph : goal.returns-clause-graph
returns-clause-graph g c =
    let matched = c.in_ok-sets.ensures.matched ∙ (c.len.ensures ∙ c.args.krates.ok.0) in
    let planned = c.in_ok-plan.plan.planned_nodes in
    let nodes = nodes_in c.in_ok-crates.crates.items planned.features.items in
    let d = drawn_nodes (outline_view c.args.outline) c.args.krates.items c.in_ok-sets.sets.items planned nodes matched c.in_ok-plan.ensures.nodes c.requires.ids (ap (λ crates. nodes_in crates planned.features.items) c.in_ok-crates.ensures) in
    let same : map planned_edge_view c.deref.result.now ≡ planned_edges (outline_view c.args.outline) = ap (λ (xs : List PlannedEdge). map planned_edge_view xs) c.deref.ensures.value ∙ c.in_ok-plan.ensures.edges in
    let kids = kids_in c.args.outline in
    let ids = krate_ids c.args.krates.items in
    let facts = facts_in ids kids c.args.outline.features.items (c.requires.ids ∙ sym (viewed_ids c.args.outline.krates.items)) in
    if_graph g.N.FromPackage.made_from g.E.FromEdge.made_from_edge (outline_view c.args.outline) c.args.krates.items c.in_ok-sets.sets.items (map (λ (row : FeatureRow). row.feature) c.args.outline.features.items) nodes
    (map planned_edge_view c.deref.result.now) c.stored.result d matched c.in_ok-sets.ensures.enabled facts same c.stored.ensures.nodes c.stored.ensures.edges

pub returns-clause-within : goal.returns-clause-within
returns-clause-within g c = if_within c.args.limits (outline_view c.args.outline) c.stored.result c.in_ok-plan.ensures.within

pub returns-clause-refused : goal.returns-clause-refused
returns-clause-refused g c = if_memory c.args.limits (outline_view c.args.outline) c.stored.result c.stored.ensures.refused
