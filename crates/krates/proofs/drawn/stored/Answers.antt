use Rattle.std.proofs.Common.{◌≡◌, ◌∙◌, map, refl, ap, sym, subst}
use Rattle.std.proofs.lemmas.Result.{err_from_is_err_and}
use Rattle.std.specs.List.{AllZip}
use Rattle.krates_drawing.specs.Views.{planned_edge_view}
use Rattle.krates.specs.MadeNodes.{IsMade, nodes_in}
use Rattle.krates.proofs.DrawnLemmas.{stand_there}
use Rattle.krates.proofs.MadeLemmas.{alike, features_refused, nodes_made}
use Rattle.krates.proofs.drawn.stored.Goals as goal

pub store_edges-requires-clause-stand : goal.store_edges-requires-clause-stand
store_edges-requires-clause-stand g c =
    let made = g.N.FromPackage.made_from in
    let there = nodes_made made c.args.crates.items c.args.features.items c.store_crates.new.graph.nodes c.store_features.new.graph.nodes c.in_ok-store_crates.ensures.stored c.in_ok-store_features.ensures.stored in
    let w = alike made (nodes_in c.args.crates.items c.args.features.items) c.store_features.new.graph.nodes there in
    let planned = map planned_edge_view c.args.planned_edges.now in
    stand_there _ _ planned planned c.requires.stand (sym w.count) refl

pub returns-clause-nodes : goal.returns-clause-nodes
returns-clause-nodes g c =
    let made = g.N.FromPackage.made_from in
    let there = nodes_made made c.args.crates.items c.args.features.items c.store_crates.new.graph.nodes c.store_features.new.graph.nodes c.in_ok-store_crates.ensures.stored c.in_ok-store_features.ensures.stored in
    subst (AllZip (IsMade made) (nodes_in c.args.crates.items c.args.features.items)) (sym (ap (λ h. h.nodes) c.store_edges.ensures.rest)) there

pub returns-in_err-store_features-clause-refused : goal.returns-in_err-store_features-clause-refused
returns-in_err-store_features-clause-refused g c =
    let limit : c.store_crates.new.graph.node_limit ≡ c.args.limits.nodes =
    ap (λ h. h.node_limit) c.store_crates.ensures.rest ∙ ap (λ h. h.node_limit) c.reserve.ensures.unchanged ∙ ap (λ h. h.node_limit) c.with_limits-graph.ensures in
    let only = features_refused g.N.FromPackage.made_from c.args.crates.items c.args.features.items c.store_crates.new.graph.nodes _ _ c.in_err-store_features.field-0.0
    c.in_ok-store_crates.ensures.stored limit c.requires.nodes c.in_err-store_features.ensures.refused in
    let p = err_from_is_err_and c.from_residual-in_err-store_features.result c.from_residual-in_err-store_features.ensures.1 in
    rw (p.1, p.2) only
