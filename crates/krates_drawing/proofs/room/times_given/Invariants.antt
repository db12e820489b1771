use Rattle.std.proofs.Common.{◌≡◌, map, take}
use Rattle.std.specs.List.{sum_by}
use Rattle.krates_selection.specs.Selection.{counted}
use Rattle.krates_drawing.specs.Room.{times_drawn}
use Rattle.krates_drawing.specs.Views.{edge_row_view, kids_in}
use Rattle.krates_drawing.proofs.room.times_given.Given as goal

abbrev pub invariant-loop-link : goal.invariant-loop-link
invariant-loop-link l = l.count ≡ counted (sum_by times_drawn (map (edge_row_view (kids_in l.outline)) (take l.link-index l.link-items)))
