use Rattle.std.proofs.Common.{ap, ◌∙◌}
use Rattle.krates_cm.specs.Document.{text_view}
use Rattle.krates_drawing.specs.Drawing.{PlannedFeature, crate_number, planned_feature}
use Rattle.krates_selection.specs.Selection.{id_at}
use Rattle.krates_drawing.specs.Views.{kids_in, feature_row_view, planned_feature_view, outline_view}
use Rattle.krates_drawing.proofs.OneByOne.{all_made, one_made}
use Rattle.krates_drawing.proofs.numbers.NumberedOutline.planned_features.Goals as goal

pub loop-x-preserved : goal.loop-x-preserved
loop-x-preserved c =
    let t = c.args.self.now.outline.now in
    let x = c.x-item.result in
    let home = crate_number (outline_view t) (id_at (kids_in t) x.feature.krate) in
    let same = ap (λ n. PlannedFeature n (text_view c.in_ok-name.name)) c.crate_number-krate_index.ensures ∙ ap (PlannedFeature home) c.in_ok-name.ensures.cases in
    one_made planned_feature_view (planned_feature (outline_view t)) (feature_row_view (kids_in t)) c.deref-x-items.result.now _ c.loop-x.x-index x c.loop-x.features.items c.push.new.self.items _
    c.loop-x-test.true c.x-item.is c.in_ok-push.ensures.items same c.loop-x.invariant

pub returns : goal.returns
returns c =
    let t = c.args.self.now.outline.now in
    all_made planned_feature_view (planned_feature (outline_view t)) (feature_row_view (kids_in t)) c.deref-x-items.result.now _ c.loop-x.x-index c.loop-x.features.items c.loop-x-test.false c.loop-x.invariant
