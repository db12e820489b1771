use Rattle.std.proofs.Common.{◌≤◌, length, subst, sym, ◌∙◌}
use Rattle.std.proofs.lemmas.List.{length-map}
use Rattle.krates_selection.specs.Selection.{counted}
use Rattle.krates_drawing.specs.Drawing.{planned_edges}
use Rattle.krates_drawing.specs.Views.{kids_in, outline_view, toggle_of}
use Rattle.krates_drawing.proofs.RoomLemmas.{counted_le, counted_parts, drawn_within}
use Rattle.krates_drawing.proofs.room.edges_at_most.Goals as goal

pub returns-clause-count : goal.returns-clause-count
returns-clause-count c =
    let t = c.args.outline.now in
    let toggled = c.len.ensures ∙ t.toggled.ok.0 ∙ sym (length-map t.toggled.items (toggle_of (kids_in t))) in
    counted_parts _ _ _ _ _ _ _ _ c.times_given-given.ensures toggled c.times_led-led.ensures c.saturating_add.ensures c.saturating_add-2.ensures

pub returns-clause-enough : goal.returns-clause-enough
returns-clause-enough c =
    let planned = planned_edges (outline_view c.args.outline.now) in
    subst (λ n. counted (length planned) ≤ n) (sym (returns-clause-count c)) (counted_le _ _ (drawn_within c.args.outline.now))
