-- What a root takes of the references of the command line, as it is decided: by the names of crates and of dependencies.
use Rattle.std.specs.Prelude.{◌≡◌, ◌↔◌, List, Bool, true, Option, Some, None, IsTrue, Contains, option_map}
use Rattle.std.specs.Borrow.{Bor}
use Rattle.std.specs.List.{AllZip}
use Rattle.krates_cm.specs.Document.{Text, DependencyModel}
use Rattle.krates_text.specs.FeatureReference.{Reference, IsReference, krate, weak, strong, simple}
use Rattle.krates_rules.specs.DeclaredDependency.{declared_name}
use Rattle.krates_rules.specs.Facts.{Id}
use Rattle.krates_rules.specs.Resolved.{Resolved}
use Rattle.krates_units.specs.BuildSetting.{BuildSettingModel}
use Rattle.krates_units.specs.Requests.{RootKind, Takes}
use Rattle.krates_build_tables.specs.References.{reference_view}
use Rattle.krates_build_tables.specs.declared.reference.FeatureReference.{FeatureReference}
use Rattle.krates_build_tables.specs.declared.selection.CrateFlags.{CrateFlags}

-- ---- names

-- one of the dependencies has the name, and is optional if only those are meant
pub record DeclaresNamed (deps : List DependencyModel) (name : Text) (only_optional : Bool) : Type 0 where
  pub dep : DependencyModel
  pub among : Contains deps dep
  pub named : declared_name dep ≡ name
  pub optional : only_optional ≡ true → dep.optional ≡ true

-- another member than the package of the folder has the name
pub record NamesOther (flags : List CrateFlags) (name : Text) : Type 0 where
  pub krate : CrateFlags
  pub among : Contains flags krate
  pub member : IsTrue krate.is_member
  pub not_current : ¬ IsTrue krate.is_current
  pub named : krate.id.now.name ≡ name

-- a crate that is asked for has the name
pub record NamesSelected (flags : List CrateFlags) (name : Text) : Type 0 where
  pub krate : CrateFlags
  pub among : Contains flags krate
  pub selected : IsTrue krate.is_selected
  pub named : krate.id.now.name ≡ name

-- the dependency and its feature that the reference names
abbrev pub feature_parts : Reference → Option (Text × Text)
feature_parts (krate d) = None
feature_parts (weak d f) = Some (d, f)
feature_parts (strong d f) = Some (d, f)
feature_parts (simple f) = None

-- the texts of two parts
abbrev pub parts_view : Bor Text × Bor Text → Text × Text
parts_view parts = (parts.0.now, parts.1.now)

-- the reference is for another member than the package of the folder
pub record IsForOtherBy (flags : List CrateFlags) (v : Reference) : Type 0 where
  pub name : Text
  pub feature : Text
  pub names : feature_parts v ≡ Some (name, feature)
  pub other : NamesOther flags name
  pub selected : NamesSelected flags name

-- ---- what is taken

-- each text is the reference at its place
abbrev pub AreReferencesOf : List Text → List Reference → Type 0
AreReferencesOf texts references = AllZip IsReference texts references

-- what a root of the kind takes of a reference that is given, or none if it takes nothing
abbrev pub TellsTaken : Resolved → BuildSettingModel → Id → RootKind → Reference → Option FeatureReference → Type 0
TellsTaken r s i kind v answer =
    (w : Reference) → Takes r s i kind v w ↔ (option_map reference_view answer ≡ Some w)
