-- Which crates are asked for, and which are roots, as it is decided: by flags of the crates.
use Rattle.std.specs.Prelude.{◌≡◌, ◌↔◌, ◌&&◌, if◌then◌else◌, List, Bool, true, false, Option, Some, None, MatchOption, IsTrue, Contains, map, option_map}
use Rattle.std.specs.Global.{Vec}
use Rattle.krates_cm.specs.Document.{Text, PackageModel}
use Rattle.krates_ids.specs.Identity.{Identity, Reads}
use Rattle.krates_ids.specs.PackageSpecification.{Specification, SpecFits}
use Rattle.krates_rules.specs.Facts.{Id}
use Rattle.krates_rules.specs.Resolved.{Resolved, id_of, IsMember}
use Rattle.krates_units.specs.BuildSetting.{BuildSettingModel}
use Rattle.krates_units.specs.Requests.{RootKind, IsBuildRootAs, IsCurrent, IsReadAmong, IsSelected, alike, unselected, current, other}
use Rattle.krates_build_tables.specs.declared.selection.CrateFlags.{CrateFlags}
use Rattle.krates_build_tables.specs.declared.roots.RootAs.{RootAs}
use Rattle.krates_build_tables.specs.declared.roots.RootAs.TheVariants as roots

-- ---- what is selected

-- what the text reads as, or none if it isn't an id
abbrev pub TellsReading : Text → Option Identity → Type 0
TellsReading t answer = MatchOption answer ((i : Identity) → Reads t i → ⊥) (Reads t)

-- these are the ids that are read from the texts
abbrev pub AreReadFrom : List Text → List Identity → Type 0
AreReadFrom texts ids = (i : Id) → IsReadAmong texts i ↔ Contains (map id_of ids) i

-- the document has a list of default members, from which these ids are read
pub record AreWritten (written : Option (List Text)) (ids : Vec Identity) : Type 0 where
  pub texts : List Text
  pub are : written ≡ Some texts
  pub read : AreReadFrom texts ids.items

-- the ids that are read from the document's list of default members; none if it has no list
abbrev pub TellsDefaults : Resolved → Option (Vec Identity) → Type 0
TellsDefaults r answer =
    MatchOption answer (r.metadata.workspace_default_members ≡ None) (AreWritten r.metadata.workspace_default_members)

-- one of the specifications fits the package
pub record FitsSome (specs : List Specification) (p : PackageModel) : Type 0 where
  pub spec : Specification
  pub among : Contains specs spec
  pub fits : SpecFits spec p

-- the id of the crate that the flags are of
abbrev pub flagged : CrateFlags → Id
flagged x = id_of x.id.now

-- the flags are those of their crate
pub record FlagsSay (r : Resolved) (s : BuildSettingModel) (x : CrateFlags) : Type 0 where
  pub member : IsTrue x.is_member ↔ IsMember r (flagged x)
  pub current : IsTrue x.is_current ↔ IsCurrent r (flagged x)
  pub selected : IsTrue x.is_selected ↔ IsSelected r s (flagged x)

-- these are the flags of the crates with these ids
pub record AreFlags (r : Resolved) (s : BuildSettingModel) (ids : List Id) (flags : List CrateFlags) : Type 0 where
  pub ids_are : map flagged flags ≡ ids
  pub each : (x : CrateFlags) → Contains flags x → FlagsSay r s x

-- ---- roots

-- a kind of roots, as the definitions name it
abbrev pub root_kind : RootAs → RootKind
root_kind roots.Alike = alike
root_kind roots.Unselected = unselected
root_kind roots.Current = current
root_kind roots.Other = other

-- none of the crates is a member that is selected
abbrev pub NoneSelected : List CrateFlags → Type 0
NoneSelected flags = (x : CrateFlags) → Contains flags x → IsTrue x.is_member → IsTrue x.is_selected → ⊥

-- by its flags, why the crate is a root: whether members are asked alike, and whether none is selected, comes first
abbrev pub kind_by : Bool → Bool → CrateFlags → Option RootKind
kind_by true none x =
    if x.is_member && x.is_selected then Some alike else (if none && x.is_member then Some unselected else None)
kind_by false none x =
    if x.is_current then Some current else (if x.is_member && x.is_selected then Some other else None)

-- why the crate is a root, or none if it isn't one
abbrev pub TellsRoot : Resolved → BuildSettingModel → Id → Option RootAs → Type 0
TellsRoot r s i answer =
    (kind : RootKind) → IsBuildRootAs r s i kind ↔ (option_map root_kind answer ≡ Some kind)
