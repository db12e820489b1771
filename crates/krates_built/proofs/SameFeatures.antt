-- Whether a crate has the same features on both sides, feature by feature.
use Rattle.std.proofs.Common.{◌≡◌, ◌↔◌, ℕ, ◌<◌, ◌≤◌, List, Bool, false, IsTrue, get_or, length, map, refl, sym, ◌∙◌, subst}
use Rattle.std.proofs.lemmas.Bool.{false≢true}
use Rattle.std.proofs.lemmas.List.Elements.{Contains-get_or}
use Rattle.krates_rules.proofs.Elements.{contains_image}
use Rattle.krates_rules.proofs.Seen.{SeenBelow, each_seen}
use Rattle.krates_build_tables.specs.declared.tables.Tables.{Tables}
use Rattle.krates_build_facts.specs.FactModels.{ActivatedFeature}
use Rattle.krates_build_facts.specs.Meanings.{Follows}
use Rattle.krates_built.specs.BuildLists.{FeatureModel, IsListOf, feature_cmp, feature_fact, feature_view}
use Rattle.krates_built.specs.OrderAt.{HasSameFeatures, IsFeatureOfBoth}
use Rattle.krates_built.specs.declared.places.FeaturePlace.{FeaturePlace}

module _ (t : Tables) (krate : ℕ) (features : List FeaturePlace) (whole : IsListOf t feature_fact feature_cmp (map feature_view features)) (i : ℕ) where
  -- a feature that isn't enabled on both sides
  pub one_sided : (d : FeaturePlace) (b : Bool) → i < length features → (get_or features i d).krate ≡ krate
      → IsTrue b ↔ IsFeatureOfBoth t krate (get_or features i d).name.now → b ≡ false → HasSameFeatures t krate → ⊥
  one_sided d b lt same is isnt h =
      let x = get_or features i d in
      let follows = (whole.exact (feature_view x)).0 (contains_image feature_view features x (Contains-get_or features i d lt)) in
      let here = subst (λ (n : ℕ). Follows t (ActivatedFeature n x.side x.name.now)) same follows in
      false≢true (sym isnt ∙ is.1 (h x.side x.name.now here))

  -- where each is, the crate has the same ones
  pub all_same : length features ≤ i → SeenBelow (λ (x : FeaturePlace). x.krate ≡ krate → IsFeatureOfBoth t krate x.name.now) features i
      → HasSameFeatures t krate
  all_same le seen n f follows =
      let y : FeatureModel = record { krate = krate; side = n; name = f } in
      each_seen feature_view (λ (z : FeatureModel). z.krate ≡ krate → IsFeatureOfBoth t krate z.name) features features i refl le seen y ((whole.exact y).1 follows) refl
