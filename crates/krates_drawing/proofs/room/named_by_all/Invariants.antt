use Rattle.std.proofs.Common.{◌≡◌, map, take}
use Rattle.std.specs.List.{sum_by}
use Rattle.krates_selection.specs.Selection.{counted}
use Rattle.krates_drawing.specs.Room.{times_named}
use Rattle.krates_drawing.specs.Views.{meaning_view}
use Rattle.krates_drawing.proofs.room.named_by_all.Given as goal

abbrev pub invariant-loop-meaning : goal.invariant-loop-meaning
invariant-loop-meaning l = l.count ≡ counted (sum_by times_named (map meaning_view (take l.meaning-index l.meanings)))
