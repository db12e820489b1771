use Rattle.std.proofs.Common.{◌≡◌, ◌++◌, map, drop}
use Rattle.krates_drawing.specs.Views.{planned_edge_view}
use Rattle.krates_drawing.proofs.LinkLines.{lines_of_links}
use Rattle.krates_drawing.proofs.numbers.NumberedOutline.draw_crates.Given as goal

abbrev pub invariant-loop-place : goal.invariant-loop-place
invariant-loop-place l =
    let t = l.self.outline.now in
    map planned_edge_view l.out.items ++ lines_of_links t (drop l.place t.links.items) ≡ map planned_edge_view l.fn.out.items ++ lines_of_links t t.links.items
