use Rattle.std.proofs.Common.{ap, ◌+◌, ◌∙◌}
use Rattle.krates_selection.specs.Selection.{counted}
use Rattle.krates_drawing.specs.Room.{times_named}
use Rattle.krates_drawing.specs.Views.{meaning_view}
use Rattle.krates_drawing.proofs.RoomLemmas.{counted_all, counted_on}
use Rattle.krates_drawing.proofs.room.named_by_all.Goals as goal

pub loop-meaning-preserved : goal.loop-meaning-preserved
loop-meaning-preserved c =
    counted_on meaning_view times_named c.args.meanings.now c.loop-meaning.meaning-index c.loop-meaning.count c.saturating_add-count.result c.meaning-item.result
    c.loop-meaning-test.true c.meaning-item.is c.loop-meaning.invariant (c.saturating_add-count.ensures ∙ ap (λ n. counted (c.loop-meaning.count + n)) c.times_named.ensures)

pub returns : goal.returns
returns c = counted_all meaning_view times_named c.args.meanings.now c.loop-meaning.meaning-index c.loop-meaning.count c.loop-meaning-test.false c.loop-meaning.invariant
