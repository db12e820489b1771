-- What the crates that are built by number mean in a document and a build.
use Rattle.std.specs.Prelude.{◌↔◌, List, Contains}
use Rattle.krates_rules.specs.Facts.{Id}
use Rattle.krates_rules.specs.Resolved.{Resolved}
use Rattle.krates_units.specs.BuildFacts.{Platform}
use Rattle.krates_units.specs.BuildSetting.{BuildSettingModel}
use Rattle.krates_units.specs.Built.{IsBuilt}
use Rattle.krates_units.specs.Machines.{MachineModel}
use Rattle.krates_build_tables.specs.TablesOf.{AreTables, CrateAt}
use Rattle.krates_build_tables.specs.declared.tables.Tables.{Tables}
use Rattle.krates_build_facts.specs.Meanings.{PlatformMeans}
use Rattle.krates_build_answers.specs.BuiltCrates.{AreBuiltIn, IsBuiltAt}
use Rattle.krates_build_answers.specs.declared.built_crates.BuiltCrate.{BuiltCrate}

-- the crate with its platform, by number, is this one
pub record BuiltMeans (ids : List Id) (ms : List MachineModel) (x : BuiltCrate) (i : Id) (k : Platform) : Type 0 where
  pub crate_at : CrateAt ids x.krate i
  pub platform : PlatformMeans ms x.platform k

-- By the tables of a document and a build exactly that is built which cargo builds.
abbrev pub BuiltAtIsBuilt : Type 0
BuiltAtIsBuilt = (r : Resolved) (s : BuildSettingModel) (ids : List Id) (ms : List MachineModel) (t : Tables) → AreTables r s ids ms t
    → (x : BuiltCrate) (i : Id) (k : Platform) → BuiltMeans ids ms x i k → IsBuiltAt t x ↔ IsBuilt r s i k

-- each of these means something that cargo builds, and all that cargo builds is meant by one of them
pub record AreBuilt (r : Resolved) (s : BuildSettingModel) (ids : List Id) (ms : List MachineModel) (built : List BuiltCrate) : Type 0 where
  pub each : (x : BuiltCrate) → Contains built x → (i : Id) × (k : Platform) × BuiltMeans ids ms x i k × IsBuilt r s i k
  pub all : (i : Id) (k : Platform) → IsBuilt r s i k → (x : BuiltCrate) × Contains built x × BuiltMeans ids ms x i k

-- The list of what is built by the tables of a document and a build is that of what cargo builds.
abbrev pub BuiltCratesAreBuilt : Type 0
BuiltCratesAreBuilt = (r : Resolved) (s : BuildSettingModel) (ids : List Id) (ms : List MachineModel) (t : Tables) → AreTables r s ids ms t
    → (built : List BuiltCrate) → AreBuiltIn t built → AreBuilt r s ids ms built
