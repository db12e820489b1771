use Rattle.std.proofs.Common.{◌≡◌, map, take}
use Rattle.std.specs.List.{sum_by}
use Rattle.krates_selection.specs.Selection.{counted}
use Rattle.krates_drawing.specs.Room.{times_leading}
use Rattle.krates_drawing.specs.Views.{feature_row_view, kids_in}
use Rattle.krates_drawing.proofs.room.times_led.Given as goal

abbrev pub invariant-loop-named : goal.invariant-loop-named
invariant-loop-named l = l.count ≡ counted (sum_by times_leading (map (feature_row_view (kids_in l.outline)) (take l.named-index l.named-items)))
