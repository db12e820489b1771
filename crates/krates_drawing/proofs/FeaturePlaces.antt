-- A feature of an outline is where a search finds it.
use Rattle.std.proofs.Common.{◌≡◌, ◌<◌, ℕ, List, All, Result, length, map, ◌&&◌, sym, ap, ◌∙◌, subst}
use Rattle.std.specs.List.Sorted.{IsBinarySearchResult, IsSearchInRange, IsStrictlySortedBy}
use Rattle.std.specs.Ordering.{is_eq}
use Rattle.std.specs.Result.{result_unwrap_or}
use Rattle.std.specs.Str.{bytes_eq}
use Rattle.krates_cm.specs.Document.{Text, text_view}
use Rattle.krates_selection.specs.Selection.{HasHome, id_at, feature_cmp}
use Rattle.krates_drawing.specs.Drawing.{is_feature, place_of}
use Rattle.krates_drawing.specs.Views.{kids_of, feature_row_view}
use Rattle.krates_drawing.specs.declared.outline.CrateRow.{CrateRow}
use Rattle.krates_drawing.specs.declared.outline.FeatureRow.{FeatureRow}
use Rattle.krates_drawing.proofs.CratePlaces.{AreInOrder, same_ids}
use Rattle.krates_drawing.proofs.EqualRanges.{searched}
use Rattle.krates_drawing.proofs.Tests.{equal_named, feature_key, features_in_order, named_cmp, named_total, place_seen}

-- a feature is looked for by number and name
feature_seen : (ks : List CrateRow) (xs : List FeatureRow) (q : ℕ) (f : Text) → AreInOrder ks → q < length ks → All (λ n. HasHome (length ks) n.feature) xs
    → place_of (is_feature (id_at (kids_of ks) q) f) (map (feature_row_view (kids_of ks)) xs) ≡ place_of (λ (n : FeatureRow). is_eq (named_cmp (feature_key n) (q, f))) xs
feature_seen ks xs q f sorted lt homes =
    place_seen (λ (n : FeatureRow). HasHome (length ks) n.feature) (feature_row_view (kids_of ks)) (is_feature (id_at (kids_of ks) q) f) (λ (n : FeatureRow). is_eq (named_cmp (feature_key n) (q, f))) xs homes
    (λ n h. equal_named n.feature.krate q (text_view n.feature.name) f ∙ ap (λ b. b && bytes_eq (text_view n.feature.name) f) (same_ids ks n.feature.krate q sorted h lt))

-- and is at the place that a search returns
pub place_found : (ks : List CrateRow) (xs ys : List FeatureRow) (q : ℕ) (f : Text) (r : Result ℕ ℕ) → AreInOrder ks → q < length ks → All (λ n. HasHome (length ks) n.feature) xs → IsStrictlySortedBy feature_cmp (map (λ (m : FeatureRow). m.feature) xs)
    → ys ≡ xs → IsSearchInRange r (length ys) → IsBinarySearchResult (λ (n : FeatureRow). named_cmp (feature_key n) (q, f)) ys r → result_unwrap_or r (length xs) ≡ place_of (is_feature (id_at (kids_of ks) q) f) (map (feature_row_view (kids_of ks)) xs)
place_found ks xs ys q f r sorted lt homes in_order same bound at =
    let range = subst (λ (l : List FeatureRow). IsSearchInRange r (length l)) same bound in
    let found = subst (λ (l : List FeatureRow). IsBinarySearchResult (λ (n : FeatureRow). named_cmp (feature_key n) (q, f)) l r) same at in
    sym (feature_seen ks xs q f sorted lt homes ∙ searched named_total feature_key xs (q, f) r (features_in_order xs in_order) range found)
