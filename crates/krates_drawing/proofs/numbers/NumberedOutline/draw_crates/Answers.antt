use Rattle.std.proofs.Common.{◌≡◌, ◌∙◌, ◌+◌, ◌<◌, ◌≤◌, ◌∷◌, ◌++◌, [], Bool, List, false, true, drop, get_or, length, map, ap, arith, subst, sym}
use Rattle.std.proofs.lemmas.List.{append-nil, at_drop_all, drop_more}
use Rattle.std.specs.List.{list_any}
use Rattle.krates_selection.specs.Selection.{HasEnds, id_at}
use Rattle.krates_drawing.specs.LinesFrom.{toggle_lines}
use Rattle.krates_drawing.specs.OutlineOrder.{AreByEnds, has_ends}
use Rattle.krates_drawing.specs.Views.{kids_in, outline_view, planned_edge_view}
use Rattle.krates_drawing.specs.declared.outline.EdgeRow.{EdgeRow}
use Rattle.krates_drawing.proofs.LinkLines.{all_links, drawn_on, first_link, given_by, lines_of_links, no_lines, toggled_after}
use Rattle.krates_drawing.proofs.Tests.{links_behind}
use Rattle.krates_drawing.proofs.numbers.NumberedOutline.draw_crates.Goals as goal
use Rattle.krates_drawing.proofs.numbers.NumberedOutline.draw_crates.Goals.{then-not-joins_again+in_ok-draw_toggled, else-not-joins_again}

pub joins_again-requires : goal.joins_again-requires
joins_again-requires c =
    let t = c.args.self.now.outline.now in
    let i = c.loop-place.place in
    let x = c.x-item.result in
    let xs = t.links.items in
    let is : x ≡ get_or xs i x = c.x-item.is ∙ ap (λ l. get_or l i x) c.deref-x-items.ensures.value in
    let lt : i < length xs = subst (λ (l : List EdgeRow). i < length l) c.deref-x-items.ensures.value c.loop-place-test.true in
    let rest = c.split_at.ensures.back ∙ ap (drop (i + 1)) c.deref.ensures.value in
    subst AreByEnds (drop_more xs i x lt ∙ ap (λ z. z ∷ drop (i + 1) xs) (sym is) ∙ ap (λ ls. x ∷ ls) (sym rest)) (links_behind xs i t.ordered.links)

pub loop-place-preserved : goal.loop-place-preserved
loop-place-preserved c =
    let t = c.args.self.now.outline.now in
    let i = c.loop-place.place in
    let x = c.x-item.result in
    let xs = t.links.items in
    let rest = drop (i + 1) xs in
    let is : x ≡ get_or xs i x = c.x-item.is ∙ ap (λ l. get_or l i x) c.deref-x-items.ensures.value in
    let lt : i < length xs = subst (λ (l : List EdgeRow). i < length l) c.deref-x-items.ensures.value c.loop-place-test.true in
    let eq : drop i xs ≡ x ∷ rest = drop_more xs i x lt ∙ ap (λ z. z ∷ rest) (sym is) in
    let ends = subst (λ (k : EdgeRow). HasEnds (length t.krates.items) k.edge) (sym is) (t.ordered.ends i x lt) in
    let first = first_link t x rest (subst AreByEnds eq (links_behind xs i t.ordered.links)) ends in
    let later : c.joins_again.result ≡ list_any (has_ends x.edge.parent x.edge.child) rest = c.joins_again.ensures ∙ ap (list_any (has_ends x.edge.parent x.edge.child)) (c.split_at.ensures.back ∙ ap (drop (i + 1)) c.deref.ensures.value) in
    let seen = map planned_edge_view in
    let old = seen c.loop-place.out.items in
    let one = seen c.draw_uses.new.out.items in
    let whole : (b : Bool) → c.joins_again.result ≡ b → old ++ ((given_by t x ++ toggled_after t x b) ++ lines_of_links t rest) ≡ seen c.args.out.now.items ++ lines_of_links t xs = λ b e.
    ap (λ z. old ++ ((given_by t x ++ toggled_after t x z) ++ lines_of_links t rest)) (sym e ∙ later) ∙ ap (λ l. old ++ l) (sym (ap (lines_of_links t) eq ∙ first)) ∙ c.loop-place.invariant in
    elim c.if-not-joins_again.branch [
      | then-not-joins_again+in_ok-draw_toggled w ↦ drawn_on old one (seen c.if-not-joins_again.out.items) (given_by t x) (toggle_lines (outline_view t) (id_at (kids_in t) x.edge.parent) (id_at (kids_in t) x.edge.child)) (lines_of_links t rest) _
          c.in_ok-draw_uses.ensures (ap (λ v. seen v.items) w.out-is ∙ w.in_ok-draw_toggled.ensures) (whole false w.if-not-joins_again.true)
      | else-not-joins_again w ↦ drawn_on old one (seen c.if-not-joins_again.out.items) (given_by t x) [] (lines_of_links t rest) _
          c.in_ok-draw_uses.ensures (ap (λ v. seen v.items) w.out-is ∙ sym (append-nil one)) (whole true w.if-not-joins_again.false)
    ]

pub returns : goal.returns
returns c =
    let t = c.args.self.now.outline.now in
    let seen = map planned_edge_view in
    let out = seen c.loop-place.out.items in
    let past : length t.links.items ≤ c.loop-place.place = subst (λ (l : List EdgeRow). length l ≤ c.loop-place.place) c.deref-x-items.ensures.value (omega (arith, c.loop-place-test.false)) in
    sym (append-nil out) ∙ ap (λ l. out ++ l) (sym (at_drop_all (lines_of_links t) t.links.items c.loop-place.place past ∙ no_lines t)) ∙ c.loop-place.invariant ∙ ap (λ l. seen c.args.out.now.items ++ l) (all_links t)
