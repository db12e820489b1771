use Rattle.std.proofs.Common.{map, ap, subst, sym, arith, ◌∙◌}
use Rattle.std.specs.List.{list_any}
use Rattle.krates_rules.specs.Resolved.{id_of}
use Rattle.krates_drawing.specs.Drawing.{is_crate, place_of}
use Rattle.krates_drawing.specs.OutlineOrder.{AreByEnds, has_ends}
use Rattle.krates_drawing.specs.Views.{crate_row_view}
use Rattle.krates_drawing.proofs.FeatureLines.{child_found, not_kept, not_led}
use Rattle.krates_drawing.proofs.Tests.{links_behind}
use Rattle.krates_drawing.proofs.drawing.number_of_child.Goals as goal
use Rattle.krates_drawing.proofs.drawing.number_of_child.Goals.{else-child-len-via-then-child-len+else-has_link, else-child-len-via-else-child-len}

pub has_link-requires : goal.has_link-requires
has_link-requires c = let t = c.args.outline.now in subst AreByEnds (sym c.deref-then-child-len.ensures.value) (links_behind t.links.items 0 t.ordered.links)

pub returns-then-has_link : goal.returns-then-has_link
returns-then-has_link c =
    let t = c.args.outline.now in
    let q = id_of c.args.id.now in
    let n = c.place_of_crate-child.result in
    let is = c.place_of_crate-child.ensures ∙ ap (λ ks. place_of (is_crate q) (map crate_row_view ks)) c.deref.ensures.value in
    let links = ap (list_any (has_ends c.args.parent n)) c.deref-then-child-len.ensures.value in
    child_found t c.args.parent n q c.requires is (omega (arith, c.if-child-len.true, c.len.ensures, t.krates.ok.0)) (sym (c.has_link.ensures ∙ links) ∙ c.if-has_link.true)

pub returns-else-child-len : goal.returns-else-child-len
returns-else-child-len c =
    let t = c.args.outline.now in
    let q = id_of c.args.id.now in
    let n = c.place_of_crate-child.result in
    let is = c.place_of_crate-child.ensures ∙ ap (λ ks. place_of (is_crate q) (map crate_row_view ks)) c.deref.ensures.value in
    elim c.else-child-len.branch [
      | else-child-len-via-then-child-len+else-has_link w ↦ (
          let links = ap (list_any (has_ends c.args.parent n)) w.deref-then-child-len.ensures.value in
          not_led t c.args.parent n q c.requires is (omega (arith, w.if-child-len.true, c.len.ensures, t.krates.ok.0)) (sym (w.has_link.ensures ∙ links) ∙ w.if-has_link.false))
      | else-child-len-via-else-child-len w ↦ not_kept t c.args.parent n q is (omega (arith, w.if-child-len.false, c.len.ensures, t.krates.ok.0))
    ]
