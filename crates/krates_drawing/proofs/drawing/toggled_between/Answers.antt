use Rattle.std.proofs.Common.{ℕ, Ordering, filter, map, rules, ap, subst, sym, ◌∙◌}
use Rattle.std.proofs.lemmas.Fn.{always_returns_same}
use Rattle.std.proofs.lemmas.List.Elements.{filter_agree}
use Rattle.std.specs.List.Sorted.{IsNonDecreasingBy}
use Rattle.std.specs.Ordering.{is_eq, is_lt, ordering_index}
use Rattle.krates_selection.specs.declared.selection.ToggledFeature.{ToggledFeature}
use Rattle.krates_drawing.specs.OutlineOrder.{has_crates}
use Rattle.krates_drawing.specs.Views.{kids_in, toggle_of}
use Rattle.krates_drawing.proofs.CratePlaces.{toggles_between}
use Rattle.krates_drawing.proofs.EqualRanges.{cut}
use Rattle.krates_drawing.proofs.Tests.{crates_of, ends_cmp, equal_ends, toggled_by_crates}
use Rattle.krates_drawing.proofs.drawing.toggled_between.Goals as goal

pub returns : goal.returns
returns c =
    let t = c.args.outline.now in
    let q : ℕ × ℕ = (c.args.parent, c.args.child) in
    let ord : ToggledFeature → Ordering = λ x. ends_cmp (crates_of x) q in
    let low = c.partition_point-below.ensures.partitioned (λ (x : ToggledFeature). is_lt (ord x)) (always_returns_same _ _ _ (λ a r k called. search rules)) in
    let high = c.partition_point-count.ensures.partitioned (λ (x : ToggledFeature). is_eq (ord x)) (always_returns_same _ _ _ (λ a r k called. search rules)) in
    let rises = subst (IsNonDecreasingBy (λ (x : ToggledFeature). ordering_index (ord x))) (sym c.deref-toggled.ensures.value) (toggled_by_crates t.toggled.items q t.ordered.toggled) in
    let found = cut ord c.deref-toggled.result.now c.split_at.result.1.now c.split_at-2.result.0.now c.partition_point-below.result c.partition_point-count.result c.split_at.ensures.back c.split_at-2.ensures.front rises low high in
    ap (map (toggle_of (kids_in t)))
    (found ∙ ap (filter (λ (x : ToggledFeature). is_eq (ord x))) c.deref-toggled.ensures.value
    ∙ filter_agree (λ (x : ToggledFeature). is_eq (ord x)) (has_crates c.args.parent c.args.child) (λ x. equal_ends (crates_of x) q) t.toggled.items)
    ∙ sym (toggles_between t.krates.items c.args.parent c.args.child t.ordered.krates c.requires.parent c.requires.child t.toggled.items t.ordered.toggled_crates)
