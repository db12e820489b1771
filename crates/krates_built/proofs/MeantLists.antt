-- The places of whole lists mean exactly what is derivable.
use Rattle.std.proofs.Common.{◌≡◌, List, Ordering, refl, subst}
use Rattle.krates_cm.specs.Document.{DependencyModel, Text}
use Rattle.krates_rules.specs.Facts.{Id, Edge}
use Rattle.krates_rules.specs.Resolved.{Resolved}
use Rattle.krates_units.specs.BuildFacts.{Fact, CompiledUnit, Placement, Platform}
use Rattle.krates_units.specs.BuildFacts as means
use Rattle.krates_units.specs.BuildSetting.{BuildSettingModel}
use Rattle.krates_units.specs.Built.{IsDerivable}
use Rattle.krates_units.specs.Machines.{MachineModel}
use Rattle.krates_units.specs.declared.sides.Side.{Side}
use Rattle.krates_build_tables.specs.TablesOf.{AreTables}
use Rattle.krates_build_tables.specs.declared.tables.Tables.{Tables}
use Rattle.krates_build_facts.specs.FactModels.{FactModel, Compiled}
use Rattle.krates_build_facts.specs.Meanings.{EachHasMeaning, EachHasNumber, Follows, Means}
use Rattle.krates_build_facts.specs.declared.facts.UnitPlace.{UnitPlace}
use Rattle.krates_build_facts.proofs.FactNumbers.{of_number}
use Rattle.krates_built.specs.BuildLists.{AreListsIn, FeatureModel, IsListOf, feature_fact, need_fact, run_fact, run_need_fact, script_fact}
use Rattle.krates_built.specs.BuiltBy.{AreMeant, IsBuiltBy, ListsAreBuilt}
use Rattle.krates_built.specs.declared.lists.Lists.{Lists}
use Rattle.krates_built.specs.declared.places.NeedPlace.{NeedPlace}
use Rattle.krates_built.specs.declared.places.RunNeedPlace.{RunNeedPlace}
use Rattle.krates_built.specs.declared.places.RunPlace.{RunPlace}
use Rattle.krates_built.specs.declared.places.ScriptPlace.{ScriptPlace}

module _ (sound : EachHasMeaning) (complete : EachHasNumber) (r : Resolved) (s : BuildSettingModel) (ids : List Id) (ms : List MachineModel)
    (t : Tables) (tables : AreTables r s ids ms t) where
  -- what a place of this form means is a fact of that form, and whatever means such a fact is a place of this form
  record IsForm {A B : Type 0} (number : A → FactModel) (form : B → Fact) : Type 0 where
    read : (x : A) (f : Fact) → Means r s ids ms t (number x) f → (y : B) × (f ≡ form y)
    numbered : (y : B) (n : FactModel) → Means r s ids ms t n (form y) → (x : A) × (n ≡ number x)

  list_meant : {A B : Type 0} (number : A → FactModel) (form : B → Fact) (order : A → A → Ordering) (places : List A) → IsForm number form
      → IsListOf t number order places → AreMeant r s ids ms t number form places
  list_meant number form order places is h = record {
    each = λ x c. (
        let w = sound r s ids ms t tables (number x) ((h.exact x).0 c) in
        let y = is.read x w.0 w.1 in
        (y.0, subst (Means r s ids ms t (number x)) y.1 w.1, subst (IsDerivable r s) y.1 w.2));
    all = λ y d. (
        let w = complete r s ids ms t tables (form y) d in
        let x = is.numbered y w.0 w.1 in
        (x.0, (h.exact x.0).1 (subst (Follows t) x.1 w.2), subst (λ (n : FactModel). Means r s ids ms t n (form y)) x.1 w.1));
  }

  units : IsForm Compiled means.Compiled
  units = record {
    read = λ x f m. (m.0, m.2);
    numbered = λ u n m. of_number r s ids ms t (λ (k : FactModel). (x : UnitPlace) × (k ≡ Compiled x)) (means.Compiled u) (λ place is. (place, refl)) n m;
  }

  scripts : IsForm script_fact (λ (x : Id × Side). means.ScriptCompiled x.0 x.1)
  scripts = record {
    read = λ x f m. ((m.0, x.side), m.2);
    numbered = λ y n m. of_number r s ids ms t (λ (k : FactModel). (x : ScriptPlace) × (k ≡ script_fact x)) (means.ScriptCompiled y.0 y.1)
        (λ c at. (record { krate = c; side = y.1 }, refl)) n m;
  }

  runs : IsForm run_fact (λ (x : Id × Placement). means.ScriptRun x.0 x.1)
  runs = record {
    read = λ x f m. ((m.0, m.1), m.4);
    numbered = λ y n m. of_number r s ids ms t (λ (k : FactModel). (x : RunPlace) × (k ≡ run_fact x)) (means.ScriptRun y.0 y.1)
        (λ c a at is. (record { krate = c; placement = a }, refl)) n m;
  }

  needs : IsForm need_fact (λ (x : Edge × DependencyModel × Platform × CompiledUnit). means.Needed x.0 x.1 x.2 x.3)
  needs = record {
    read = λ x f m. ((m.0, m.1, m.2, m.3), m.7);
    numbered = λ y n m. of_number r s ids ms t (λ (k : FactModel). (x : NeedPlace) × (k ≡ need_fact x)) (means.Needed y.0 y.1 y.2 y.3)
        (λ place from library link platform unit. (record { link = place; from = from; library = library }, refl)) n m;
  }

  run_needs : IsForm run_need_fact (λ (x : Edge × DependencyModel × Placement × Placement). means.RunNeeded x.0 x.1 x.2 x.3)
  run_needs = record {
    read = λ x f m. ((m.0, m.1, m.2, m.3), m.7);
    numbered = λ y n m. of_number r s ids ms t (λ (k : FactModel). (x : RunNeedPlace) × (k ≡ run_need_fact x)) (means.RunNeeded y.0 y.1 y.2 y.3)
        (λ place from run link one other. (record { link = place; from = from; run = run }, refl)) n m;
  }

  features : IsForm feature_fact (λ (x : Id × Side × Text). means.ActivatedFeature x.0 x.1 x.2)
  features = record {
    read = λ x f m. ((m.0, x.side, x.name), m.2);
    numbered = λ y n m. of_number r s ids ms t (λ (k : FactModel). (x : FeatureModel) × (k ≡ feature_fact x)) (means.ActivatedFeature y.0 y.1 y.2)
        (λ c at. (record { krate = c; side = y.1; name = y.2 }, refl)) n m;
  }

  lists_meant : (l : Lists) → AreListsIn t l → IsBuiltBy r s ids ms t l
  lists_meant l h = record {
    units = list_meant _ _ _ _ units h.units;
    scripts = list_meant _ _ _ _ scripts h.scripts;
    runs = list_meant _ _ _ _ runs h.runs;
    needs = list_meant _ _ _ _ needs h.needs;
    run_needs = list_meant _ _ _ _ run_needs h.run_needs;
    features = list_meant _ _ _ _ features h.features;
  }

pub lists_are_built : EachHasMeaning → EachHasNumber → ListsAreBuilt
lists_are_built sound complete r s ids ms t l tables h = lists_meant sound complete r s ids ms t tables l h
