use Rattle.std.proofs.Common.{map, max, ap, sym, ◌+◌, ◌∙◌}
use Rattle.std.proofs.lemmas.List.{length-map}
use Rattle.std.specs.List.{sum_by}
use Rattle.krates_cm.specs.Document.{text_view}
use Rattle.krates_selection.specs.Selection.{counted}
use Rattle.krates_drawing.specs.Room.{times_drawn}
use Rattle.krates_drawing.specs.Views.{edge_row_view, kids_in}
use Rattle.krates_drawing.proofs.RoomLemmas.{counted_all, counted_on}
use Rattle.krates_drawing.proofs.room.times_given.Goals as goal

pub loop-link-preserved : goal.loop-link-preserved
loop-link-preserved c =
    let given = c.link-item.result.given in
    let times = c.max.ensures ∙ ap (λ n. max n 1) (c.len.ensures ∙ given.ok.0 ∙ sym (length-map given.items text_view)) in
    counted_on (edge_row_view (kids_in c.args.outline.now)) times_drawn c.deref-link-items.result.now c.loop-link.link-index c.loop-link.count c.saturating_add-count.result c.link-item.result
    c.loop-link-test.true c.link-item.is c.loop-link.invariant (c.saturating_add-count.ensures ∙ ap (λ n. counted (c.loop-link.count + n)) times)

pub returns : goal.returns
returns c =
    let seen = edge_row_view (kids_in c.args.outline.now) in
    counted_all seen times_drawn c.deref-link-items.result.now c.loop-link.link-index c.loop-link.count c.loop-link-test.false c.loop-link.invariant
    ∙ ap (λ ls. counted (sum_by times_drawn (map seen ls))) c.deref-link-items.ensures.value
