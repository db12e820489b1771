use Rattle.std.proofs.Common.{◌≡◌, ap, arith, inr, length, map, sym, ◌∙◌}
use Rattle.std.proofs.lemmas.List.{length-map}
use Rattle.std.specs.Global.{Vec}
use Rattle.krates_drawing.specs.Drawing.{planned_edges}
use Rattle.krates_drawing.specs.Views.{outline_view, planned_edge_view}
use Rattle.krates_drawing.specs.declared.edge.PlannedEdge.{PlannedEdge}
use Rattle.krates_drawing.specs.declared.outline.Outline.{Outline}
use Rattle.krates_drawing.proofs.limits.plan_within.Goals as goal

count_of : (v : Vec PlannedEdge) (t o : Outline) → map planned_edge_view v.items ≡ planned_edges (outline_view t) → t ≡ o → v.len ≡ length (planned_edges (outline_view o))
count_of v t o drawn same = v.ok.0 ∙ sym (length-map v.items planned_edge_view) ∙ ap length drawn ∙ ap (λ z. length (planned_edges (outline_view z))) same

pub returns-then-len-limits-clause-refused : goal.returns-then-len-limits-clause-refused
returns-then-len-limits-clause-refused c =
    let count = count_of c.in_ok-planned_edges.planned_edges _ c.args.outline.now c.in_ok-planned_edges.ensures c.in-Some.ensures.0 in
    inr (omega (arith, count, c.len.ensures, c.if-len-limits.true))

pub returns-clause-within : goal.returns-clause-within
returns-clause-within c =
    let count = count_of c.in_ok-planned_edges.planned_edges _ c.args.outline.now c.in_ok-planned_edges.ensures c.in-Some.ensures.0 in
    record { nodes = c.in-Some.ensures.1; edges = omega (arith, count, c.len.ensures, c.if-len-limits.false) }
