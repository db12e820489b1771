use Rattle.std.proofs.Common.{◌≡◌, ◌++◌, map, drop}
use Rattle.std.specs.Prelude.{flat_map}
use Rattle.krates_selection.specs.Selection.{id_at}
use Rattle.krates_drawing.specs.Drawing.{feature_lines, targets}
use Rattle.krates_drawing.specs.LinesFrom.{line_from}
use Rattle.krates_drawing.specs.Views.{feature_row_view, kids_in, meaning_view, outline_view, planned_edge_view}
use Rattle.krates_drawing.proofs.numbers.NumberedOutline.draw_feature.Given as goal

abbrev pub invariant-loop-x : goal.invariant-loop-x
invariant-loop-x l =
    let t = outline_view l.self.outline.now in
    let kids = kids_in l.self.outline.now in
    map planned_edge_view l.out.items ++ map (line_from t l.source) (flat_map (targets t (id_at kids l.krate)) (map meaning_view (drop l.x-index l.x-items)))
    ≡ map planned_edge_view l.fn.out.items ++ feature_lines t (feature_row_view kids l.named)
