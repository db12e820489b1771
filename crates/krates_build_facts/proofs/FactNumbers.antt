-- What is to be shown of each number of a fact.
use Rattle.std.proofs.Common.{ℕ, List, subst}
use Rattle.krates_rules.specs.Facts.{Id}
use Rattle.krates_rules.specs.Resolved.{Resolved}
use Rattle.krates_units.specs.BuildFacts.{Fact}
use Rattle.krates_units.specs.BuildFacts as means
use Rattle.krates_units.specs.BuildSetting.{BuildSettingModel}
use Rattle.krates_units.specs.Machines.{MachineModel}
use Rattle.krates_build_tables.specs.TablesOf.{CrateAt}
use Rattle.krates_build_tables.specs.declared.tables.LinkPlace.{LinkPlace}
use Rattle.krates_build_tables.specs.declared.tables.Tables.{Tables}
use Rattle.krates_build_facts.specs.FactModels.{FactModel, Met, LinkedReference, LinkedFeature, LinkedName, Linked, Lost, Activated, ActivatedReference, ActivatedFeature, ActivatedName, Used, Available, Compiled, Needed, ScriptRun, ScriptCompiled, RunNeeded}
use Rattle.krates_build_facts.specs.Meanings.{LackingMeans, LinkMeans, Means, PlacementMeans, PlatformMeans, UnitMeans}
use Rattle.krates_build_facts.specs.declared.facts.PlacementNumber.{PlacementNumber}
use Rattle.krates_build_facts.specs.declared.facts.PlatformNumber.{PlatformNumber}
use Rattle.krates_build_facts.specs.declared.facts.UnitPlace.{UnitPlace}

-- it holds of each number that means the fact, by the form of the fact
abbrev pub OfNumbers : (r : Resolved) (s : BuildSettingModel) (ids : List Id) (ms : List MachineModel) (t : Tables)
    (P : FactModel → Type 0) → Fact → Type 0
OfNumbers r s ids ms t P (means.Met i m) = (c : ℕ) → CrateAt ids c i → P (Met c m)
OfNumbers r s ids ms t P (means.LinkedReference i m v) = (c : ℕ) → CrateAt ids c i → P (LinkedReference c m v)
OfNumbers r s ids ms t P (means.LinkedFeature i m f) = (c : ℕ) → CrateAt ids c i → P (LinkedFeature c m f)
OfNumbers r s ids ms t P (means.LinkedName i m d) = (c : ℕ) → CrateAt ids c i → P (LinkedName c m d)
OfNumbers r s ids ms t P (means.Linked e d) = (place : LinkPlace) → LinkMeans r s ids ms t place e d → P (Linked place)
OfNumbers r s ids ms t P (means.Lost i d) = (c index : ℕ) → LackingMeans ids t c index i d → P (Lost c index)
OfNumbers r s ids ms t P (means.Activated i n) = (c : ℕ) → CrateAt ids c i → P (Activated c n)
OfNumbers r s ids ms t P (means.ActivatedReference i n v) = (c : ℕ) → CrateAt ids c i → P (ActivatedReference c n v)
OfNumbers r s ids ms t P (means.ActivatedFeature i n f) = (c : ℕ) → CrateAt ids c i → P (ActivatedFeature c n f)
OfNumbers r s ids ms t P (means.ActivatedName i n d) = (c : ℕ) → CrateAt ids c i → P (ActivatedName c n d)
OfNumbers r s ids ms t P (means.Used e d n) = (place : LinkPlace) → LinkMeans r s ids ms t place e d → P (Used place n)
OfNumbers r s ids ms t P (means.Available i text) = (c : ℕ) → CrateAt ids c i → P (Available c text)
OfNumbers r s ids ms t P (means.Compiled u) = (place : UnitPlace) → UnitMeans ids ms t place u → P (Compiled place)
OfNumbers r s ids ms t P (means.Needed e d k u) = (place : LinkPlace) (from : PlatformNumber) (library : UnitPlace)
    → LinkMeans r s ids ms t place e d → PlatformMeans ms from k → UnitMeans ids ms t library u → P (Needed place from library)
OfNumbers r s ids ms t P (means.ScriptRun i a) = (c : ℕ) (at : PlacementNumber) → CrateAt ids c i
    → PlacementMeans ms at a → P (ScriptRun c at)
OfNumbers r s ids ms t P (means.ScriptCompiled i n) = (c : ℕ) → CrateAt ids c i → P (ScriptCompiled c n)
OfNumbers r s ids ms t P (means.RunNeeded e d a b) = (place : LinkPlace) (from run : PlacementNumber)
    → LinkMeans r s ids ms t place e d → PlacementMeans ms from a → PlacementMeans ms run b → P (RunNeeded place from run)

module _ (r : Resolved) (s : BuildSettingModel) (ids : List Id) (ms : List MachineModel) (t : Tables) (P : FactModel → Type 0) where
  pub of_number : (f : Fact) → OfNumbers r s ids ms t P f → (n : FactModel) → Means r s ids ms t n f → P n
  of_number f all (Met c m) (i, at, e) = subst (OfNumbers r s ids ms t P) e all c at
  of_number f all (LinkedReference c m v) (i, at, e) = subst (OfNumbers r s ids ms t P) e all c at
  of_number f all (LinkedFeature c m g) (i, at, e) = subst (OfNumbers r s ids ms t P) e all c at
  of_number f all (LinkedName c m d) (i, at, e) = subst (OfNumbers r s ids ms t P) e all c at
  of_number f all (Linked place) (edge, d, is, e) = subst (OfNumbers r s ids ms t P) e all place is
  of_number f all (Lost c index) (i, d, is, e) = subst (OfNumbers r s ids ms t P) e all c index is
  of_number f all (Activated c n) (i, at, e) = subst (OfNumbers r s ids ms t P) e all c at
  of_number f all (ActivatedReference c n v) (i, at, e) = subst (OfNumbers r s ids ms t P) e all c at
  of_number f all (ActivatedFeature c n g) (i, at, e) = subst (OfNumbers r s ids ms t P) e all c at
  of_number f all (ActivatedName c n d) (i, at, e) = subst (OfNumbers r s ids ms t P) e all c at
  of_number f all (Used place n) (edge, d, is, e) = subst (OfNumbers r s ids ms t P) e all place is
  of_number f all (Available c text) (i, at, e) = subst (OfNumbers r s ids ms t P) e all c at
  of_number f all (Compiled place) (u, is, e) = subst (OfNumbers r s ids ms t P) e all place is
  of_number f all (Needed place from library) (edge, d, k, u, link, platform, unit, e) =
      subst (OfNumbers r s ids ms t P) e all place from library link platform unit
  of_number f all (ScriptRun c at) (i, a, crate, placement, e) = subst (OfNumbers r s ids ms t P) e all c at crate placement
  of_number f all (ScriptCompiled c n) (i, at, e) = subst (OfNumbers r s ids ms t P) e all c at
  of_number f all (RunNeeded place from run) (edge, d, a, b, link, one, other, e) =
      subst (OfNumbers r s ids ms t P) e all place from run link one other
