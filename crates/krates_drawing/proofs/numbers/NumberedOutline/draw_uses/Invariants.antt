use Rattle.std.proofs.Common.{◌≡◌, ◌++◌, map, drop}
use Rattle.krates_cm.specs.Document.{text_view}
use Rattle.krates_selection.specs.Selection.{edge_view}
use Rattle.krates_rules.specs.Kind.{kind_of}
use Rattle.krates_drawing.specs.Drawing.{AtCrate, AtFeature, DepFeature, line}
use Rattle.krates_drawing.specs.Views.{kids_in, outline_view, planned_edge_view}
use Rattle.krates_drawing.proofs.numbers.NumberedOutline.draw_uses.Given as goal

abbrev pub invariant-loop-x : goal.invariant-loop-x
invariant-loop-x l =
    let kids = kids_in l.self.outline.now in
    let e = edge_view kids l.link.edge in
    map planned_edge_view l.out.items ++ map (λ g. line (outline_view l.self.outline.now) (AtCrate e.parent) (AtFeature e.child g) (DepFeature (kind_of e.kind) e.cfg)) (map text_view (drop l.x-index l.x-items))
    ≡ map planned_edge_view l.fn.out.items ++ map (λ g. line (outline_view l.self.outline.now) (AtCrate e.parent) (AtFeature e.child g) (DepFeature (kind_of e.kind) e.cfg)) (map text_view l.link.given.items)
