-- What crates that are built twice are in a document and a build.
use Rattle.std.specs.Prelude.{◌↔◌, ℕ, List}
use Rattle.krates_cm.specs.Document.{Text}
use Rattle.krates_rules.specs.Facts.{Id}
use Rattle.krates_rules.specs.Resolved.{Resolved}
use Rattle.krates_units.specs.BuildFacts.{ActivatedFeature, Platform}
use Rattle.krates_units.specs.BuildSetting.{BuildSettingModel}
use Rattle.krates_units.specs.Built.{IsCompiled, IsDerivable}
use Rattle.krates_units.specs.Machines.{MachineModel}
use Rattle.krates_units.specs.Sides.{HasFeaturesOf}
use Rattle.krates_units.specs.declared.sides.Side.{Side}
use Rattle.krates_build_tables.specs.TablesOf.{AreTables, CrateAt}
use Rattle.krates_build_tables.specs.declared.tables.Tables.{Tables}
use Rattle.krates_build_answers.specs.BuiltTwice.{IsBuiltTwice}

-- what is compiled of the crate for the side has the feature
abbrev pub HasFeatureFor : Resolved → BuildSettingModel → Id → Side → Text → Type 0
HasFeatureFor r s i side f = (m : Side) × HasFeaturesOf s side m × IsDerivable r s (ActivatedFeature i m f)

-- cargo compiles the crate for each side, and what is for one of them has a feature that what is for another hasn't
pub record IsCompiledTwice (r : Resolved) (s : BuildSettingModel) (i : Id) : Type 0 where
  pub each : (n : Side) → (k : Platform) × IsCompiled r s i k n
  pub feature : Text
  pub on : Side
  pub off : Side
  pub enabled : HasFeatureFor r s i on feature
  pub disabled : ¬ HasFeatureFor r s i off feature

-- By the tables of a document and a build exactly the crates are built twice that cargo compiles twice.
abbrev pub TwiceIsCompiledTwice : Type 0
TwiceIsCompiledTwice = (r : Resolved) (s : BuildSettingModel) (ids : List Id) (ms : List MachineModel) (t : Tables) → AreTables r s ids ms t
    → (krate : ℕ) (i : Id) → CrateAt ids krate i → IsBuiltTwice t krate ↔ IsCompiledTwice r s i
