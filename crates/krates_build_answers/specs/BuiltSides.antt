-- For what crates are built, in a document and a build: for the host, for some machine, or at all; and what they are used for.
use Rattle.std.specs.Prelude.{◌↔◌, ℕ, List, Contains}
use Rattle.krates_rules.specs.Facts.{Id}
use Rattle.krates_rules.specs.Resolved.{Resolved}
use Rattle.krates_units.specs.BuildFacts.{Platform, host, machine}
use Rattle.krates_units.specs.BuildSetting.{BuildSettingModel}
use Rattle.krates_units.specs.Built.{IsBuilt}
use Rattle.krates_units.specs.Machines.{MachineModel}
use Rattle.krates_build_tables.specs.TablesOf.{AreTables, CrateAt}
use Rattle.krates_build_tables.specs.declared.tables.Tables.{Tables}
use Rattle.krates_build_answers.specs.BuiltCrates.{AreBuiltIn, IsAmong, IsForHost, IsForTargets}
use Rattle.krates_build_answers.specs.Uses.{AreUses}
use Rattle.krates_build_answers.specs.declared.built_crates.BuiltCrate.{BuiltCrate}
use Rattle.krates_build_answers.specs.declared.uses.BuildUse.{BuildUse}
use Rattle.krates_build_answers.specs.declared.uses.BuildUse.TheVariants.{Shipped, Build, Tests}
use Rattle.krates_build_answers.specs.declared.uses.UsedCrate.{UsedCrate}

-- cargo builds the crate for some machine
abbrev pub IsBuiltForTargets : Resolved → BuildSettingModel → Id → Type 0
IsBuiltForTargets r s i = (m : MachineModel) × IsBuilt r s i (machine m)

-- cargo builds it, for whatever
abbrev pub IsBuiltAtAll : Resolved → BuildSettingModel → Id → Type 0
IsBuiltAtAll r s i = (k : Platform) × IsBuilt r s i k

-- the list says of the crate with this number what cargo builds it for
pub record TellsSides (r : Resolved) (s : BuildSettingModel) (built : List BuiltCrate) (krate : ℕ) (i : Id) : Type 0 where
  pub for_host : IsForHost krate built ↔ IsBuilt r s i host
  pub for_targets : IsForTargets krate built ↔ IsBuiltForTargets r s i
  pub at_all : IsAmong krate built ↔ IsBuiltAtAll r s i

-- The list of what is built by the tables of a document and a build does so of each crate.
abbrev pub SidesAreTold : Type 0
SidesAreTold = (r : Resolved) (s : BuildSettingModel) (ids : List Id) (ms : List MachineModel) (t : Tables) → AreTables r s ids ms t
    → (built : List BuiltCrate) → AreBuiltIn t built → (krate : ℕ) (i : Id) → CrateAt ids krate i → TellsSides r s built krate i

-- ---- uses

-- By the build as it is asked for, a crate is shipped if cargo builds it for some machine, and used in building if cargo builds it for the host
-- alone; otherwise cargo doesn't build it.
abbrev pub IsUseOf : Resolved → BuildSettingModel → Id → BuildUse → Type 0
IsUseOf r s i Shipped = IsBuiltForTargets r s i
IsUseOf r s i Build = ¬ IsBuiltForTargets r s i × IsBuilt r s i host
IsUseOf r s i Tests = ¬ IsBuiltAtAll r s i

-- each is a crate that cargo builds with all targets, with what it is used for, and each such crate has one
pub record AreUsesOf (r : Resolved) (s all : BuildSettingModel) (ids : List Id) (uses : List UsedCrate) : Type 0 where
  pub each : (u : UsedCrate) → Contains uses u → (i : Id) × CrateAt ids u.krate i × IsBuiltAtAll r all i × IsUseOf r s i u.usage
  pub whole : (i : Id) → IsBuiltAtAll r all i → (u : UsedCrate) × Contains uses u × CrateAt ids u.krate i

-- The uses of two builds of one document are those of what cargo builds.
abbrev pub UsesAreOf : Type 0
UsesAreOf = (r : Resolved) (s all : BuildSettingModel) (ids : List Id) (ms ns : List MachineModel) (t u : Tables) → AreTables r s ids ms t
    → AreTables r all ids ns u → (as_asked with_all : List BuiltCrate) → AreBuiltIn t as_asked → AreBuiltIn u with_all
    → (uses : List UsedCrate) → AreUses as_asked with_all uses → AreUsesOf r s all ids uses
