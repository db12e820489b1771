use Rattle.std.proofs.Common.{◌≡◌, ◌++◌, map, drop, filter}
use Rattle.krates_selection.specs.Selection.{id_at}
use Rattle.krates_rules.specs.Resolved.{id_of}
use Rattle.krates_drawing.specs.Drawing.{leads, targets}
use Rattle.krates_drawing.specs.LinesFrom.{end_of, line_from}
use Rattle.krates_drawing.specs.Views.{kids_in, meaning_view, outline_view, planned_edge_view}
use Rattle.krates_drawing.proofs.numbers.NumberedOutline.draw_meaning.Given as goal

abbrev pub invariant-loop-x : goal.invariant-loop-x
invariant-loop-x l =
    let t = outline_view l.self.outline.now in
    let own = id_at (kids_in l.self.outline.now) l.krate in
    let m = meaning_view l.meaning in
    map planned_edge_view l.out.items ++ map (line_from t l.source) (map (end_of m) (filter (leads t own) (map id_of (drop l.x-index l.x-items))))
    ≡ map planned_edge_view l.fn.out.items ++ map (line_from t l.source) (targets t own m)
