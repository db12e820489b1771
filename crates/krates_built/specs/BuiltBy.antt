-- What the places of lists mean in a document and a build.
use Rattle.std.specs.Prelude.{List, Contains, map}
use Rattle.krates_cm.specs.Document.{DependencyModel, Text}
use Rattle.krates_rules.specs.Facts.{Id, Edge}
use Rattle.krates_rules.specs.Resolved.{Resolved}
use Rattle.krates_units.specs.BuildFacts.{Fact, CompiledUnit, Placement, Platform}
use Rattle.krates_units.specs.BuildFacts as means
use Rattle.krates_units.specs.BuildSetting.{BuildSettingModel}
use Rattle.krates_units.specs.Built.{IsDerivable}
use Rattle.krates_units.specs.Machines.{MachineModel}
use Rattle.krates_units.specs.declared.sides.Side.{Side}
use Rattle.krates_build_tables.specs.TablesOf.{AreTables}
use Rattle.krates_build_tables.specs.declared.tables.Tables.{Tables}
use Rattle.krates_build_facts.specs.FactModels.{FactModel, Compiled}
use Rattle.krates_build_facts.specs.Meanings.{Means}
use Rattle.krates_built.specs.BuildLists.{AreListsIn, feature_fact, feature_view, need_fact, run_fact, run_need_fact, script_fact}
use Rattle.krates_built.specs.declared.lists.Lists.{Lists}

-- each place of the list means a fact that is derivable, and each fact of this form that is derivable has a place
pub record AreMeant {A B : Type 0} (r : Resolved) (s : BuildSettingModel) (ids : List Id) (ms : List MachineModel) (t : Tables)
    (number : A → FactModel) (form : B → Fact) (places : List A) : Type 0 where
  pub each : (x : A) → Contains places x → (y : B) × Means r s ids ms t (number x) (form y) × IsDerivable r s (form y)
  pub all : (y : B) → IsDerivable r s (form y) → (x : A) × Contains places x × Means r s ids ms t (number x) (form y)

-- The lists are exactly what is derivable: units, build scripts with the side of their features, runs with what is placed so, needs by edge,
-- dependency and platform, those of runs by edge, dependency and placements, and features by crate and side.
pub record IsBuiltBy (r : Resolved) (s : BuildSettingModel) (ids : List Id) (ms : List MachineModel) (t : Tables) (l : Lists) : Type 0 where
  pub units : AreMeant r s ids ms t Compiled means.Compiled l.units.items
  pub scripts : AreMeant r s ids ms t script_fact (λ (x : Id × Side). means.ScriptCompiled x.0 x.1) l.scripts.items
  pub runs : AreMeant r s ids ms t run_fact (λ (x : Id × Placement). means.ScriptRun x.0 x.1) l.runs.items
  pub needs : AreMeant r s ids ms t need_fact (λ (x : Edge × DependencyModel × Platform × CompiledUnit). means.Needed x.0 x.1 x.2 x.3)
      l.needs.items
  pub run_needs : AreMeant r s ids ms t run_need_fact
      (λ (x : Edge × DependencyModel × Placement × Placement). means.RunNeeded x.0 x.1 x.2 x.3) l.run_needs.items
  pub features : AreMeant r s ids ms t feature_fact (λ (x : Id × Side × Text). means.ActivatedFeature x.0 x.1 x.2)
      (map feature_view l.features.items)

-- Lists of what follows from the tables of a document and a build are exactly what is derivable by the rules of what cargo builds.
abbrev pub ListsAreBuilt : Type 0
ListsAreBuilt = (r : Resolved) (s : BuildSettingModel) (ids : List Id) (ms : List MachineModel) (t : Tables) (l : Lists) → AreTables r s ids ms t
    → AreListsIn t l → IsBuiltBy r s ids ms t l
