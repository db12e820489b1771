use Rattle.std.proofs.Common.{◌≡◌, ◌++◌, map, drop}
use Rattle.std.specs.Prelude.{flat_map}
use Rattle.krates_drawing.specs.Drawing.{feature_lines}
use Rattle.krates_drawing.specs.Views.{kids_in, feature_row_view, outline_view, planned_edge_view}
use Rattle.krates_drawing.proofs.numbers.NumberedOutline.draw_features.Given as goal

abbrev pub invariant-loop-x : goal.invariant-loop-x
invariant-loop-x l =
    map planned_edge_view l.out.items ++ flat_map (feature_lines (outline_view l.self.outline.now)) (map (feature_row_view (kids_in l.self.outline.now)) (drop l.x-index l.x-items))
    ≡ map planned_edge_view l.fn.out.items ++ flat_map (feature_lines (outline_view l.self.outline.now)) (map (feature_row_view (kids_in l.self.outline.now)) l.self.outline.now.features.items)
