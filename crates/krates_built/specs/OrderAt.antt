-- By number: crates for which cargo's answer depends on the order of its visits.
use Rattle.std.specs.Prelude.{◌≡◌, ◌<◌, ℕ, List, Some, false, true, Contains, slice_get}
use Rattle.krates_cm.specs.Document.{Text}
use Rattle.krates_cm.specs.declared.dependency.DependencyKind.TheVariants.{Build}
use Rattle.krates_units.specs.declared.sides.Side.{Side}
use Rattle.krates_build_tables.specs.declared.tables.CrateEntry.{CrateEntry}
use Rattle.krates_build_tables.specs.declared.tables.Link.{Link}
use Rattle.krates_build_tables.specs.declared.tables.Tables.{Tables}
use Rattle.krates_build_facts.specs.FactModels.{ActivatedFeature, ActivatedName, Linked, ScriptCompiled}
use Rattle.krates_build_facts.specs.Meanings.{Follows}

-- the link is of an optional dependency of a build script, and passes on the host
pub record MayDiffer (l : Link) : Type 0 where
  pub kind : l.kind ≡ Build
  pub optional : l.is_optional ≡ true
  pub passes : l.passes_on_host ≡ true

-- the crate's dependencies of this name are turned on from one side, and not from another
pub record IsOnOneSide (t : Tables) (krate : ℕ) (name : Text) : Type 0 where
  pub on : Side
  pub off : Side
  pub turned_on : Follows t (ActivatedName krate on name)
  pub turned_off : ¬ Follows t (ActivatedName krate off name)

-- the link exists, and differs by the side of the build script
pub record Differs (t : Tables) (krate : ℕ) (l : Link) : Type 0 where
  pub may : MayDiffer l
  pub linked : Follows t (Linked l.place)
  pub on_one_side : IsOnOneSide t krate l.name.now

-- some of these links differs
pub record HasDiffering (t : Tables) (krate : ℕ) (links : List Link) : Type 0 where
  pub link : Link
  pub among : Contains links link
  pub differs : Differs t krate link

-- the crate's build script is compiled with the features of each side
abbrev pub IsOnBothSides : Tables → ℕ → Type 0
IsOnBothSides t krate = (n : Side) → Follows t (ScriptCompiled krate n)

-- the feature of the crate is enabled on both sides
abbrev pub IsFeatureOfBoth : Tables → ℕ → Text → Type 0
IsFeatureOfBoth t krate f = (n : Side) → Follows t (ActivatedFeature krate n f)

-- so is each of its features that is enabled
abbrev pub HasSameFeatures : Tables → ℕ → Type 0
HasSameFeatures t krate = (n : Side) (f : Text) → Follows t (ActivatedFeature krate n f) → IsFeatureOfBoth t krate f

-- by a later resolver, cargo's answer for the crate of this entry depends on the order of its visits
pub record Depends (t : Tables) (krate : ℕ) (e : CrateEntry) : Type 0 where
  pub both : IsOnBothSides t krate
  pub differing : HasDiffering t krate e.links.items
  pub same : HasSameFeatures t krate

-- it does for the crate with this number
pub record DependsAt (t : Tables) (krate : ℕ) : Type 0 where
  pub later : t.is_first ≡ false
  pub entry : CrateEntry
  pub at : slice_get t.crates.items krate ≡ Some entry
  pub depends : Depends t krate entry

-- and for none with a lower one
pub record IsFirstDependent (t : Tables) (krate : ℕ) : Type 0 where
  pub depends : DependsAt t krate
  pub first : (other : ℕ) → other < krate → ¬ DependsAt t other
