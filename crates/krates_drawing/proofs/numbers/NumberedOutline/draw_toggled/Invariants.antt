use Rattle.std.proofs.Common.{◌≡◌, ◌++◌, map, drop}
use Rattle.krates_selection.specs.Selection.{id_at}
use Rattle.krates_drawing.specs.Drawing.{AtCrate, AtFeature, Feature, line}
use Rattle.krates_drawing.specs.LinesFrom.{toggle_lines}
use Rattle.krates_drawing.specs.Views.{kids_in, outline_view, planned_edge_view, toggle_of}
use Rattle.krates_drawing.proofs.numbers.NumberedOutline.draw_toggled.Given as goal

abbrev pub invariant-loop-x : goal.invariant-loop-x
invariant-loop-x l =
    let t = outline_view l.self.outline.now in
    let kids = kids_in l.self.outline.now in
    let from = id_at kids l.parent in
    let to = id_at kids l.child in
    map planned_edge_view l.out.items ++ map (λ g. line t (AtCrate from) (AtFeature to g.name) Feature) (map (toggle_of kids) (drop l.x-index l.x-items))
    ≡ map planned_edge_view l.fn.out.items ++ toggle_lines t from to
