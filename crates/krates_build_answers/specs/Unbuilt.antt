-- Why a crate isn't built, whatever derived the facts of the build.
use Rattle.std.specs.Prelude.{◌≡◌, ℕ, Any, Bool, true, false, List}
use Rattle.krates_rules.specs.Facts.{Id}
use Rattle.krates_rules.specs.Resolved.{Resolved}
use Rattle.krates_units.specs.BuildFacts.{Platform}
use Rattle.krates_units.specs.BuildSetting.{BuildSettingModel}
use Rattle.krates_units.specs.Built.{IsBuilt}
use Rattle.krates_units.specs.Machines.{MachineModel}
use Rattle.krates_build_tables.specs.TablesOf.{AreTables, CrateAt}
use Rattle.krates_build_tables.specs.declared.tables.Tables.{Tables}
use Rattle.krates_build_facts.specs.FactModels.{FactModel, Compiled, ScriptCompiled}
use Rattle.krates_build_facts.specs.declared.facts.PlatformNumber.{PlatformNumber}
use Rattle.krates_build_checkers.specs.Closedness.{IsClosed, IsClosedRefused}
use Rattle.krates_build_checkers.specs.declared.build_check_error.BuildCheckError.{BuildCheckError}
use Rattle.krates_build_answers.specs.BuiltCrates.{IsBuiltAt}

-- the fact says that a unit or the build script of the crate is compiled
abbrev pub SaysBuilt : ℕ → FactModel → Type 0
SaysBuilt krate (Compiled unit) = unit.target.krate ≡ krate
SaysBuilt krate (ScriptCompiled number side) = number ≡ krate
SaysBuilt krate _ = ⊥

-- one of the facts says so
abbrev pub SayBuilt : ℕ → List FactModel → Type 0
SayBuilt krate facts = Any (SaysBuilt krate) facts

-- by the tables the crate is built for nothing
abbrev pub IsUnbuiltAt : Tables → ℕ → Type 0
IsUnbuiltAt t krate = (platform : PlatformNumber) → ¬ IsBuiltAt t (record { krate = krate; platform = platform })

-- the facts are closed, and none of them says that the crate is built, so it isn't
pub record IsShownUnbuilt (t : Tables) (facts : List FactModel) (krate : ℕ) : Type 0 where
  pub closed : IsClosed t facts
  pub unsaid : ¬ SayBuilt krate facts
  pub unbuilt : IsUnbuiltAt t krate

-- the answer is yes only if that holds, and no only if one of the facts says that it is
abbrev pub TellsUnbuilt : Tables → List FactModel → ℕ → Bool → Type 0
TellsUnbuilt t facts krate true = IsShownUnbuilt t facts krate
TellsUnbuilt t facts krate false = SayBuilt krate facts

-- there is no answer: none of the facts says that it is, and they aren't accepted as closed, for this cause
abbrev pub IsUntold : Tables → List FactModel → ℕ → BuildCheckError → Type 0
IsUntold t facts krate cause = ¬ SayBuilt krate facts × IsClosedRefused t facts cause

-- What isn't built by the tables of a document and a build, cargo doesn't build.
abbrev pub UnbuiltIsNotBuilt : Type 0
UnbuiltIsNotBuilt = (r : Resolved) (s : BuildSettingModel) (ids : List Id) (ms : List MachineModel) (t : Tables) → AreTables r s ids ms t
    → (krate : ℕ) (i : Id) → CrateAt ids krate i → IsUnbuiltAt t krate → (k : Platform) → ¬ IsBuilt r s i k
