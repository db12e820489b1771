use Rattle.std.proofs.Common.{◌≡◌, ◌++◌, map, drop}
use Rattle.krates_drawing.specs.Drawing.{planned_feature}
use Rattle.krates_drawing.specs.Views.{kids_in, feature_row_view, planned_feature_view, outline_view}
use Rattle.krates_drawing.proofs.numbers.NumberedOutline.planned_features.Given as goal

abbrev pub invariant-loop-x : goal.invariant-loop-x
invariant-loop-x l = map planned_feature_view l.features.items ++ map (planned_feature (outline_view l.self.outline.now)) (map (feature_row_view (kids_in l.self.outline.now)) (drop l.x-index l.x-items))
    ≡ map (planned_feature (outline_view l.self.outline.now)) (map (feature_row_view (kids_in l.self.outline.now)) l.self.outline.now.features.items)
