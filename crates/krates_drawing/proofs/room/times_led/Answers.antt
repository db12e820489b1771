use Rattle.std.proofs.Common.{map, ap, ◌+◌, ◌∙◌}
use Rattle.std.specs.List.{sum_by}
use Rattle.krates_selection.specs.Selection.{counted}
use Rattle.krates_drawing.specs.Room.{times_leading, times_named}
use Rattle.krates_drawing.specs.Views.{feature_row_view, kids_in, meaning_view}
use Rattle.krates_drawing.proofs.RoomLemmas.{counted_all, counted_on, counted_two}
use Rattle.krates_drawing.proofs.room.times_led.Goals as goal

pub loop-named-preserved : goal.loop-named-preserved
loop-named-preserved c =
    let count = c.loop-named.count in
    let meanings = c.named-item.result.meanings.items in
    let named = c.named_by_all.ensures ∙ ap (λ ms. counted (sum_by times_named (map meaning_view ms))) c.deref.ensures.value in
    let more = c.saturating_add-count.ensures ∙ ap (λ n. counted (n + c.named_by_all.result)) c.saturating_add.ensures ∙ ap (λ n. counted (counted (count + 1) + n)) named ∙ counted_two count 1 (sum_by times_named (map meaning_view meanings)) in
    counted_on (feature_row_view (kids_in c.args.outline.now)) times_leading c.deref-named-items.result.now c.loop-named.named-index count c.saturating_add-count.result c.named-item.result
    c.loop-named-test.true c.named-item.is c.loop-named.invariant more

pub returns : goal.returns
returns c =
    let seen = feature_row_view (kids_in c.args.outline.now) in
    counted_all seen times_leading c.deref-named-items.result.now c.loop-named.named-index c.loop-named.count c.loop-named-test.false c.loop-named.invariant
    ∙ ap (λ ns. counted (sum_by times_leading (map seen ns))) c.deref-named-items.ensures.value
