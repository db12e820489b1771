-- Crates that are built twice, step by step.
use Rattle.std.proofs.Common.{◌≡◌, ◌↔◌, ◌⊎◌, ℕ, List, [], Any, Contains, Bool, true, false, IsTrue, map, refl, sym, ap, ◌∙◌, subst, inl, inr}
use Rattle.std.proofs.lemmas.Bool.{false≢true}
use Rattle.krates_rules.proofs.Members.{contains_of, mapped_of, member_map, member_of}
use Rattle.krates_units.specs.contracts.sides.SidePartialEq.TheImpl.{ghosts as side_equality}
use Rattle.krates_units.specs.declared.sides.Side.{Side}
use Rattle.krates_units.specs.declared.sides.Side.TheVariants as sides
use Rattle.krates_build_tables.specs.declared.tables.Tables.{Tables}
use Rattle.krates_build_facts.specs.FactModels.{ActivatedFeature, Compiled}
use Rattle.krates_build_facts.specs.Meanings.{Follows}
use Rattle.krates_build_facts.specs.Rows.{features_side}
use Rattle.krates_build_facts.specs.declared.facts.UnitPlace.{UnitPlace}
use Rattle.krates_built.specs.BuildLists.{FeatureModel, IsListOf, feature_cmp, feature_fact, feature_view, script_cmp, script_fact, unit_cmp}
use Rattle.krates_built.specs.declared.places.FeaturePlace.{FeaturePlace}
use Rattle.krates_built.specs.declared.places.ScriptPlace.{ScriptPlace}
use Rattle.krates_build_answers.specs.Adding.{Adds, IsOfSome}
use Rattle.krates_build_answers.specs.BuiltCrates.{AreBuiltIn, IsAmong, IsBuiltAt}
use Rattle.krates_build_answers.specs.BuiltCrates as crates
use Rattle.krates_build_answers.specs.BuiltTwice.{AreBuiltTwice, HasFeatureOn, HasOneSided, IsBuiltOn, IsBuiltTwice, IsOneSided, IsOneSidedOf, IsScriptOn, IsThisTwice, IsUnitOn, as_script, as_unit}
use Rattle.krates_build_answers.specs.declared.built_crates.BuiltCrate.{BuiltCrate}
use Rattle.krates_build_answers.proofs.SomeElements.{any_has, any_of}

-- ---- sides

pub same_side : (a b : Side) → side_equality.eq a b ≡ true → a ≡ b
same_side sides.Targets sides.Targets e = refl
same_side sides.Targets sides.Host e = absurd cc
same_side sides.Host sides.Targets e = absurd cc
same_side sides.Host sides.Host e = refl

pub side_itself : (a b : Side) → a ≡ b → side_equality.eq a b ≡ true
side_itself sides.Targets sides.Targets e = refl
side_itself sides.Targets sides.Host e = absurd cc
side_itself sides.Host sides.Targets e = absurd cc
side_itself sides.Host sides.Host e = refl

pub both_sides : (P : Side → Type 0) → P sides.Targets → P sides.Host → (n : Side) → P n
both_sides P one other sides.Targets = one
both_sides P one other sides.Host = other

-- of two of which the first isn't so, the second decides
pub second_decides : {A B C : Type 0} (b c : Bool) → IsTrue b ↔ A → b ≡ false → IsTrue c ↔ B → (A ⊎ B) ↔ C → IsTrue c ↔ C
second_decides b c one isnt other same = (
  λ t. same.0 (inr (other.0 t)),
  λ h. elim (same.1 h) [ inl a ↦ absurd (false≢true (sym isnt ∙ one.1 a)) | inr x ↦ other.1 x ],
)

-- by the lists of units and of build scripts
pub built_on : (t : Tables) (units : List UnitPlace) (scripts : List ScriptPlace) → IsListOf t Compiled unit_cmp units → IsListOf t script_fact script_cmp scripts
    → (krate : ℕ) (side : Side) → (Any (IsUnitOn krate side) units ⊎ Any (IsScriptOn krate side) scripts) ↔ IsBuiltOn t krate side
built_on t units scripts of_units of_scripts krate side = (there, here)
  where
    there : Any (IsUnitOn krate side) units ⊎ Any (IsScriptOn krate side) scripts → IsBuiltOn t krate side
    there (inl a) = let w = any_has (IsUnitOn krate side) units a in as_unit w.0 ((of_units.exact w.0).0 w.1) w.2
    there (inr a) = let w = any_has (IsScriptOn krate side) scripts a in as_script w.0 ((of_scripts.exact w.0).0 w.1) w.2

    here : IsBuiltOn t krate side → Any (IsUnitOn krate side) units ⊎ Any (IsScriptOn krate side) scripts
    here (as_unit u follows is) = inl (any_of (IsUnitOn krate side) units u ((of_units.exact u).1 follows) is)
    here (as_script x follows is) = inr (any_of (IsScriptOn krate side) scripts x ((of_scripts.exact x).1 follows) is)

-- ---- features

module _ (t : Tables) (krate : ℕ) (features : List FeaturePlace) (whole : IsListOf t feature_fact feature_cmp (map feature_view features)) where
  -- a feature of the crate that is one-sided is one of the list
  pub one_sided_there : HasOneSided t krate → Any (IsOneSidedOf t krate) features
  one_sided_there (name, h) =
      let y : FeatureModel = record { krate = krate; side = features_side t h.on; name = name } in
      let w = mapped_of feature_view features y (member_of (map feature_view features) y ((whole.exact y).1 h.enabled)) in
      any_of (IsOneSidedOf t krate) features w.from (contains_of features w.from w.member)
      (record { krate_is = ap (λ (z : FeatureModel). z.krate) w.is; one_sided = subst (IsOneSided t krate) (sym (ap (λ (z : FeatureModel). z.name) w.is)) h })

-- ---- all crates

-- what is built for a side is built
pub among_built : (t : Tables) (built : List BuiltCrate) → AreBuiltIn t built → (krate : ℕ) (side : Side) → IsBuiltOn t krate side → IsAmong krate built
among_built t built whole krate side (as_unit u follows is) =
    any_of (λ (x : BuiltCrate). x.krate ≡ krate) built (crates.of_unit u) ((whole (crates.of_unit u)).1 (crates.as_unit u follows refl)) is.krate_is
among_built t built whole krate side (as_script x follows is) =
    any_of (λ (y : BuiltCrate). y.krate ≡ krate) built (crates.of_script x) ((whole (crates.of_script x)).1 (crates.as_script x follows refl)) is.krate_is

pub all_twice : (t : Tables) (built : List BuiltCrate) (krates all twice : List ℕ) → AreBuiltIn t built → ((k : ℕ) → Contains krates k ↔ IsAmong k built)
    → Adds (IsOfSome (IsThisTwice t) krates) [] all → ((k : ℕ) → Contains twice k ↔ Contains all k) → AreBuiltTwice t twice
all_twice t built krates all twice whole of_built added same k = (
  λ c. elim ((added k).0 ((same k).0 c)) [
    | inl none ↦ absurd (member_of [] k none)
    | inr w ↦ subst (IsBuiltTwice t) w.related.same w.related.twice
  ],
  λ h. (same k).1 ((added k).1 (inr (record {
    from = k;
    among = (of_built k).1 (among_built t built whole k sides.Targets (h.each sides.Targets));
    related = record { same = refl; twice = h };
  }))),
)
