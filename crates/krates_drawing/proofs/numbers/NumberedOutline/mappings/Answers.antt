use Rattle.std.proofs.Common.{◌≡◌, ◌∙◌, ◌+◌, ◌∷◌, All, length, drop, map, replicate, None, ap, arith, subst, sym}
use Rattle.std.proofs.lemmas.List.{drop_all, drop_more, length-map, with_items_is}
use Rattle.krates_selection.specs.Selection.{HasEnds}
use Rattle.krates_drawing.specs.OutlineOrder.{AreByEnds, IsClaimed}
use Rattle.krates_drawing.specs.declared.outline.CrateRow.{CrateRow}
use Rattle.krates_drawing.specs.declared.outline.EdgeRow.{EdgeRow}
use Rattle.krates_drawing.proofs.Mapped.{IsMappedAfter, all_mapped, mapped_more, none_mapped}
use Rattle.krates_drawing.proofs.Tests.{links_behind}
use Rattle.krates_drawing.proofs.numbers.NumberedOutline.mappings.Goals as goal

pub loop-link-init : goal.loop-link-init
loop-link-init c =
    let t = c.args.self.now.outline.now in
    let ms = c.in_ok-mappings.mappings.items in
    let none = c.in_ok-mappings.ensures in
    record {
      after = subst (λ ls. IsMappedAfter t ls (map (λ m. m.items) ms)) (sym c.deref-link-items.ensures.value) (none_mapped t (map (λ m. m.items) ms) none);
      count = sym (length-map ms (λ m. m.items)) ∙ ap length none ∙ length-map t.krates.items (λ (k : CrateRow). replicate k.declared None);
    }

pub loop-link-preserved : goal.loop-link-preserved
loop-link-preserved c =
    let t = c.args.self.now.outline.now in
    let l = c.loop-link in
    let i = l.link-index in
    let x = c.link-item.result in
    let xs = c.deref-link-items.result.now in
    let rest = drop (i + 1) xs in
    let eq : drop i xs ≡ x ∷ rest = drop_more xs i x c.loop-link-test.true ∙ ap (λ z. z ∷ rest) (sym c.link-item.is) in
    let by = subst AreByEnds eq (subst (λ ls. AreByEnds (drop i ls)) (sym c.deref-link-items.ensures.value) (links_behind t.links.items i t.ordered.links)) in
    let all_ends = subst (All (λ (k : EdgeRow). HasEnds (length t.krates.items) k.edge)) (sym c.deref-link-items.ensures.value) t.ordered.ends in
    let ends = subst (λ (k : EdgeRow). HasEnds (length t.krates.items) k.edge) (sym c.link-item.is) (all_ends i x c.loop-link-test.true) in
    let after = c.claim.new.mappings in
    let items = with_items_is l.mappings after (c.claim.auto.mappings ∙ ap length c.deref_mut.ensures.value ∙ sym l.mappings.ok.0) in
    let old = map (λ m. m.items) l.mappings.items in
    let claimed = subst (λ ms. IsClaimed x (map (λ m. m.items) ms) (map (λ m. m.items) after)) c.deref_mut.ensures.value c.claim.ensures in
    let more = mapped_more t x rest old (map (λ m. m.items) after) by ends claimed (subst (λ ls. IsMappedAfter t ls old) eq l.invariant.after) in
    record {
      after = subst (λ ms. IsMappedAfter t rest (map (λ m. m.items) ms)) (sym items) more;
      count = ap length items ∙ c.claim.auto.mappings ∙ ap length c.deref_mut.ensures.value ∙ l.invariant.count;
    }

pub returns : goal.returns
returns c =
    let t = c.args.self.now.outline.now in
    let l = c.loop-link in
    let ms = map (λ m. m.items) l.mappings.items in
    all_mapped t ms (length-map l.mappings.items (λ m. m.items) ∙ l.invariant.count)
    (subst (λ ls. IsMappedAfter t ls ms) (drop_all l.link-index c.deref-link-items.result.now (omega (arith, c.loop-link-test.false))) l.invariant.after)
