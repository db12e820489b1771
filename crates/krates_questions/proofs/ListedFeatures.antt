-- The listed features of a document, as its table has them.
use Rattle.std.proofs.Common.{◌≡◌, ℕ, ◌<◌, length, get_or, option_map, Some, refl, sym, ap, ◌∙◌, subst}
use Rattle.std.proofs.lemmas.List.{length-map}
use Rattle.std.proofs.lemmas.Option.{slice_get-map, slice_get_read}
use Rattle.std.specs.List.{slice_get}
use Rattle.krates_questions.specs.FeatureTable.{listed_view, listed_features}
use Rattle.krates_questions.specs.Lookup.{IsLookup, resolved_view}
use Rattle.krates_questions.specs.declared.feature_table.ListedFeature.{ListedFeature}
use Rattle.krates_questions.specs.declared.lookup.Lookup.{Lookup}

-- there are as many as the table has
pub listed_long : (d : Lookup) → IsLookup d → length (listed_features (resolved_view d)) ≡ length d.features.listed.items
listed_long d h = sym (ap length h.features) ∙ length-map d.features.listed.items listed_view

-- that of a number
pub listed_at : (d : Lookup) (number : ℕ) (x : ListedFeature) → IsLookup d → number < length (listed_features (resolved_view d)) → x ≡ get_or d.features.listed.items number x
    → slice_get (listed_features (resolved_view d)) number ≡ Some (listed_view x)
listed_at d number x h lt is =
    let ls = d.features.listed.items in
    sym (ap (λ all. slice_get all number) h.features) ∙ slice_get-map listed_view ls number ∙ ap (option_map listed_view) (slice_get_read ls (length ls) number x refl (subst (λ (n : ℕ). number < n) (listed_long d h) lt) is)
