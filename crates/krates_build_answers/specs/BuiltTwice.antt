-- By number: the crates that a build compiles twice, with different features.
use Rattle.std.specs.Prelude.{◌≡◌, ◌↔◌, ℕ, List, Contains}
use Rattle.krates_cm.specs.Document.{Text}
use Rattle.krates_units.specs.declared.sides.Side.{Side}
use Rattle.krates_build_tables.specs.declared.tables.Tables.{Tables}
use Rattle.krates_build_facts.specs.FactModels.{ActivatedFeature, Compiled}
use Rattle.krates_build_facts.specs.Meanings.{Follows}
use Rattle.krates_build_facts.specs.Rows.{features_side}
use Rattle.krates_build_facts.specs.declared.facts.UnitPlace.{UnitPlace}
use Rattle.krates_built.specs.BuildLists.{script_fact}
use Rattle.krates_built.specs.declared.places.FeaturePlace.{FeaturePlace}
use Rattle.krates_built.specs.declared.places.ScriptPlace.{ScriptPlace}

-- the unit is of the crate, and for the side
pub record IsUnitOn (krate : ℕ) (side : Side) (u : UnitPlace) : Type 0 where
  pub krate_is : u.target.krate ≡ krate
  pub side_is : u.placement.side ≡ side

-- so is the build script
pub record IsScriptOn (krate : ℕ) (side : Side) (x : ScriptPlace) : Type 0 where
  pub krate_is : x.krate ≡ krate
  pub side_is : x.side ≡ side

-- a unit or the build script of the crate is compiled for the side
pub data IsBuiltOn (t : Tables) (krate : ℕ) (side : Side) : Type 0 where
  as_unit : (u : UnitPlace) → Follows t (Compiled u) → IsUnitOn krate side u → IsBuiltOn t krate side
  as_script : (x : ScriptPlace) → Follows t (script_fact x) → IsScriptOn krate side x → IsBuiltOn t krate side

-- what is compiled for the side has the feature
abbrev pub HasFeatureOn : Tables → ℕ → Side → Text → Type 0
HasFeatureOn t krate side name = Follows t (ActivatedFeature krate (features_side t side) name)

-- what is compiled for one side has the feature, and what is for another hasn't
pub record IsOneSided (t : Tables) (krate : ℕ) (name : Text) : Type 0 where
  pub on : Side
  pub off : Side
  pub enabled : HasFeatureOn t krate on name
  pub disabled : ¬ HasFeatureOn t krate off name

-- the feature is one of the crate that is so
pub record IsOneSidedOf (t : Tables) (krate : ℕ) (x : FeaturePlace) : Type 0 where
  pub krate_is : x.krate ≡ krate
  pub one_sided : IsOneSided t krate x.name.now

-- some feature is so
abbrev pub HasOneSided : Tables → ℕ → Type 0
HasOneSided t krate = (name : Text) × IsOneSided t krate name

-- a unit or the build script of the crate is compiled for each side
abbrev pub IsOnBoth : Tables → ℕ → Type 0
IsOnBoth t krate = (side : Side) → IsBuiltOn t krate side

-- the crate is compiled for each side, with different features
pub record IsBuiltTwice (t : Tables) (krate : ℕ) : Type 0 where
  pub each : IsOnBoth t krate
  pub differ : HasOneSided t krate

-- these are exactly those crates
abbrev pub AreBuiltTwice : Tables → List ℕ → Type 0
AreBuiltTwice t krates = (krate : ℕ) → Contains krates krate ↔ IsBuiltTwice t krate

-- ---- steps

-- it is this crate, and one of those
pub record IsThisTwice (t : Tables) (krate other : ℕ) : Type 0 where
  pub same : krate ≡ other
  pub twice : IsBuiltTwice t krate
