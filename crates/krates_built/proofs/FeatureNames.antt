-- The names of the features of one crate on one side are whole and in order, where all features are.
use Rattle.std.proofs.Common.{◌≡◌, ℕ, List, [], ◌∷◌, ◌++◌, Bool, true, false, ◌==◌, ◌&&◌, if◌then◌else◌, Contains, Some, None, Ordering, Less, Equal, rules, refl, sym, ap, ◌∙◌, subst, eqb-true}
use Rattle.std.proofs.lemmas.Cmp.{nat_cmp_total, tied_itself}
use Rattle.std.proofs.lemmas.Option.{same_Some}
use Rattle.std.specs.Cmp.Lexicographic.{slice_cmp}
use Rattle.std.specs.List.{filter_map}
use Rattle.std.specs.Ordering.{nat_cmp, ordering_then}
use Rattle.krates_cm.specs.Document.{Text}
use Rattle.krates_rules.proofs.Members.{contains_of, member_of}
use Rattle.krates_units.specs.contracts.sides.SideOrd.TheImpl as side_order
use Rattle.krates_units.specs.contracts.sides.SidePartialEq.TheImpl.{ghosts as side_equality}
use Rattle.krates_units.specs.declared.sides.Side.{Side}
use Rattle.krates_units.specs.declared.sides.Side.TheVariants as sides
use Rattle.krates_build_tables.specs.declared.tables.Tables.{Tables}
use Rattle.krates_build_facts.specs.FactModels.{ActivatedFeature}
use Rattle.krates_built.specs.BuildLists.{FeatureModel, IsListOf, feature_cmp, feature_fact}
use Rattle.krates_built.specs.FactLists.{with_one}
use Rattle.krates_built.specs.FeaturesOf.{name_at}
use Rattle.krates_built.proofs.Picked.{picked_from, picked_more, picked_of, picked_sorted}

-- ---- one feature

-- a feature of this name of the crate on the side
abbrev one_of : ℕ → Side → Text → FeatureModel
one_of krate side name = record { krate = krate; side = side; name = name }

same_side : (a b : Side) → side_equality.eq a b ≡ true → a ≡ b
same_side sides.Targets sides.Targets e = refl
same_side sides.Targets sides.Host e = absurd cc
same_side sides.Host sides.Targets e = absurd cc
same_side sides.Host sides.Host e = refl

side_itself : (a : Side) → side_equality.eq a a ≡ true
side_itself sides.Targets = refl
side_itself sides.Host = refl

side_tied : (a : Side) → (side_order.ghosts).cmp a a ≡ Equal
side_tied sides.Targets = refl
side_tied sides.Host = refl

number_itself : (n : ℕ) → (n == n) ≡ true
number_itself n = search rules

named_step : (krate : ℕ) (side : Side) (f : FeatureModel) (name : Text) (b c : Bool) → (f.krate == krate) ≡ b → side_equality.eq f.side side ≡ c
    → (if b && c then Some f.name else None) ≡ Some name → f ≡ one_of krate side name
named_step krate side f name true true number same e = rw (sym (eqb-true f.krate krate number), sym (same_side f.side side same), sym (same_Some f.name name e)) refl
named_step krate side f name true false number same e = absurd cc
named_step krate side f name false c number same e = absurd cc

named : (krate : ℕ) (side : Side) (f : FeatureModel) (name : Text) → name_at krate side f ≡ Some name → f ≡ one_of krate side name
named krate side f name e = named_step krate side f name (f.krate == krate) (side_equality.eq f.side side) refl refl e

names_itself : (krate : ℕ) (side : Side) (name : Text) → name_at krate side (one_of krate side name) ≡ Some name
names_itself krate side name = rw (number_itself krate, side_itself side) refl

then_less : (x : Ordering) → ordering_then Equal x ≡ Less → x ≡ Less
then_less x e = e

names_rise : (krate : ℕ) (side : Side) (x y : Text) → feature_cmp (one_of krate side x) (one_of krate side y) ≡ Less → slice_cmp nat_cmp x y ≡ Less
names_rise krate side x y less =
    let order = slice_cmp nat_cmp x y in
    let inner = subst (λ (o : Ordering). ordering_then o (ordering_then ((side_order.ghosts).cmp side side) order) ≡ Less) (tied_itself nat_cmp_total krate) less in
    subst (λ (o : Ordering). ordering_then o order ≡ Less) (side_tied side) inner

-- ---- all of them

keeps : (krate : ℕ) (side : Side) (a b : FeatureModel) (x y : Text) → name_at krate side a ≡ Some x → name_at krate side b ≡ Some y
    → feature_cmp a b ≡ Less → slice_cmp nat_cmp x y ≡ Less
keeps krate side a b x y e f less = names_rise krate side x y
    (subst (λ (g : FeatureModel). feature_cmp g (one_of krate side y) ≡ Less) (named krate side a x e)
    (subst (λ (g : FeatureModel). feature_cmp a g ≡ Less) (named krate side b y f) less))

pub names_found : (t : Tables) (krate : ℕ) (side : Side) (features : List FeatureModel) (names : List Text) → names ≡ filter_map (name_at krate side) features
    → IsListOf t feature_fact feature_cmp features → IsListOf t (ActivatedFeature krate side) (slice_cmp nat_cmp) names
names_found t krate side features names is whole =
    let p = name_at krate side in
    subst (IsListOf t (ActivatedFeature krate side) (slice_cmp nat_cmp)) (sym is) (record {
      exact = λ name. (
        λ c. (
            let w = picked_from p features name (member_of (filter_map p features) name c) in
            (whole.exact (one_of krate side name)).0 (subst (Contains features) (named krate side w.0 name w.2) (contains_of features w.0 w.1))),
        λ h. (
            let there = member_of features (one_of krate side name) ((whole.exact (one_of krate side name)).1 h) in
            contains_of (filter_map p features) name (picked_of p features (one_of krate side name) name there (names_itself krate side name))),
      );
      ascending = picked_sorted feature_cmp (slice_cmp nat_cmp) p (keeps krate side) features whole.ascending;
    })

-- with one more feature
pub names_more : (krate : ℕ) (side : Side) (features more : List FeatureModel) (f : FeatureModel) (names grown : List Text) → more ≡ features ++ f ∷ []
    → names ≡ filter_map (name_at krate side) features → grown ≡ with_one names (name_at krate side f) → grown ≡ filter_map (name_at krate side) more
names_more krate side features more f names grown is h added =
    added ∙ ap (λ (xs : List Text). with_one xs (name_at krate side f)) h ∙ sym (picked_more (name_at krate side) features f)
    ∙ ap (filter_map (name_at krate side)) (sym is)
