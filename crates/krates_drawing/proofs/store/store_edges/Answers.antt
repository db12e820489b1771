use Rattle.std.proofs.Common.{◌≡◌, ◌∙◌, ◌+◌, ◌<◌, ◌∷◌, ◌++◌, [], length, ap, refl, rules, sym, subst}
use Rattle.std.proofs.lemmas.List.{length_push}
use Rattle.krates_graph.specs.declared.graph.edge.GraphEdge.{GraphEdge}
use Rattle.krates_rules.proofs.Zips.{zip_next, seen_at}
use Rattle.krates_drawing.specs.Ends.{HasEnds}
use Rattle.krates_drawing.specs.Stored.{IsStoredAs}
use Rattle.krates_drawing.specs.Views.{planned_edge_view}
use Rattle.krates_drawing.proofs.store.store_edges.Goals as goal

pub loop-x-preserved : goal.loop-x-preserved
loop-x-preserved g c =
    let l = c.loop-x in
    let x = c.x-item.result in
    let made = g.E.FromEdge.made_from_edge in
    let stored : GraphEdge _ = record { source = x.source; target = x.target; weight = c.in_ok-weight.weight } in
    let is : IsStoredAs made (planned_edge_view x) stored = record { source = refl; target = refl; edge = c.in_ok-edge.edge; says = c.in_ok-edge.ensures.cases; made_from = c.in_ok-weight.ensures } in
    let added : c.add_edge.new.self.edges ≡ l.graph.edges ++ stored ∷ [] = ap (λ h. h.edges) c.in-Ok.ensures.added in
    record {
      drawn = rw added (zip_next (IsStoredAs made) planned_edge_view c.args.planned_edges.now l.x-index x l.graph.edges stored c.loop-x-test.true c.x-item.is is l.invariant.drawn);
      count = ap length added ∙ length_push l.graph.edges stored ∙ ap (λ n. n + 1) l.invariant.count;
      rest = c.in-Ok.ensures.added ∙ search rules;
    }

pub add_edge-requires-clause-source_stands : goal.add_edge-requires-clause-source_stands
add_edge-requires-clause-source_stands g c =
    let here = seen_at (HasEnds (length c.args.graph.now.nodes)) planned_edge_view c.args.planned_edges.now c.loop-x.x-index c.x-item.result c.requires.stand c.loop-x-test.true c.x-item.is in
    subst (λ ns. c.x-item.result.source < length ns) (sym (ap (λ h. h.nodes) c.loop-x.invariant.rest)) here.0

pub add_edge-requires-clause-target_stands : goal.add_edge-requires-clause-target_stands
add_edge-requires-clause-target_stands g c =
    let here = seen_at (HasEnds (length c.args.graph.now.nodes)) planned_edge_view c.args.planned_edges.now c.loop-x.x-index c.x-item.result c.requires.stand c.loop-x-test.true c.x-item.is in
    subst (λ ns. c.x-item.result.target < length ns) (sym (ap (λ h. h.nodes) c.loop-x.invariant.rest)) here.1
