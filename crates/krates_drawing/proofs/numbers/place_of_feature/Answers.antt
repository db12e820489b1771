use Rattle.std.proofs.Common.{ap, rules, ◌∙◌}
use Rattle.std.proofs.lemmas.Fn.{always_returns_same}
use Rattle.std.specs.Result.{result_unwrap_or}
use Rattle.krates_drawing.specs.declared.outline.FeatureRow.{FeatureRow}
use Rattle.krates_drawing.proofs.FeaturePlaces.{place_found}
use Rattle.krates_drawing.proofs.Tests.{feature_key, named_cmp}
use Rattle.krates_drawing.proofs.numbers.place_of_feature.Goals as goal

pub returns-clause-place : goal.returns-clause-place
returns-clause-place c =
    let t = c.args.outline.now in
    let o = t.ordered in
    let found = c.binary_search_by.ensures in
    let r = c.binary_search_by.result in
    let at = found.position (λ (n : FeatureRow). named_cmp (feature_key n) (c.args.krate, c.args.name.now)) (always_returns_same _ _ _ (λ a r k called. search rules)) in
    c.unwrap_or.ensures ∙ ap (result_unwrap_or r) (c.len.ensures ∙ t.features.ok.0)
    ∙ place_found t.krates.items t.features.items c.deref.result.now c.args.krate c.args.name.now r o.krates c.requires.within o.homes o.features c.deref.ensures.value found.bound at
