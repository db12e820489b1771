use Rattle.std.proofs.Common.{ℕ, Ordering, rules, ◌∙◌}
use Rattle.std.proofs.lemmas.Fn.{always_returns_same}
use Rattle.std.specs.Ordering.{is_eq}
use Rattle.krates_drawing.specs.OutlineOrder.{has_ends}
use Rattle.krates_drawing.specs.declared.outline.EdgeRow.{EdgeRow}
use Rattle.krates_drawing.proofs.EqualRanges.{some_found}
use Rattle.krates_drawing.proofs.Tests.{any_alike, ends_cmp, ends_of, equal_ends, links_by_ends}
use Rattle.krates_drawing.proofs.drawing.has_link.Goals as goal

pub returns : goal.returns
returns c =
    let xs = c.args.links.now in
    let q : ℕ × ℕ = (c.args.parent, c.args.child) in
    let ord : EdgeRow → Ordering = λ l. ends_cmp (ends_of l) q in
    let found = c.binary_search_by.ensures in
    let at = found.position ord (always_returns_same _ _ _ (λ a r k called. search rules)) in
    c.is_ok.ensures.value ∙ some_found ord xs c.binary_search_by.result (links_by_ends xs q c.requires) found.bound at
    ∙ any_alike (λ l. is_eq (ord l)) (has_ends c.args.parent c.args.child) (λ l. equal_ends (ends_of l) q) xs
