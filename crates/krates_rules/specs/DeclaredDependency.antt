-- The declared dependency of a listed edge (Cargo Book, "cargo metadata", `dependencies` and `resolve`; "Specifying
-- Dependencies").
use Rattle.std.specs.Prelude.{◌≡◌, ◌≢◌, ◌⊎◌, ℕ, ◌<◌, List, [], Option, Some, true, slice_get, unwrap_or, MatchOption}
use Rattle.semver.specs.EvalViews.{matches_views}
use Rattle.krates_cm.specs.Document.{Text, VersionModel, RequirementModel, DependencyModel, DepKindInfoModel, NodeDepModel}
use Rattle.krates_cm.specs.Names.{version_named}
use Rattle.krates_rules.specs.Admission.{HoldsTwice}
use Rattle.krates_rules.specs.DeclaredSource.{HasSource}
use Rattle.krates_rules.specs.DependencyName.{IsNameOf}
use Rattle.krates_rules.specs.Facts.{Id}

-- a dependency of a node, with its id
pub record DependencyEntry : Type 0 where
  pub id : Id
  pub dep : NodeDepModel

-- the dependency of a node with this id
abbrev pub dependency_entry : Id → NodeDepModel → DependencyEntry
dependency_entry i d = record { id = i; dep = d }

-- the name under which the manifest knows the dependency
abbrev pub declared_name : DependencyModel → Text
declared_name d = unwrap_or d.rename d.name

-- the dependency is known by the declared name, by the node's name for it or by that of its package
abbrev pub NameFits : DependencyEntry → DependencyModel → Type 0
NameFits n d = IsNameOf n.dep.name (declared_name d) ⊎ IsNameOf n.id.name (declared_name d)

-- the requirement matches the version; one without a comparator takes every pre-release
abbrev pub VersionMatches : VersionModel → RequirementModel → Type 0
VersionMatches v req = (matches_views req v ≡ true) ⊎ ((v.3 ≢ []) × (req ≡ []))

-- the version of the dependency's id is one that the requirement allows
pub record VersionFits (n : DependencyEntry) (d : DependencyModel) : Type 0 where
  pub version : VersionModel
  pub named : version_named n.id.version ≡ Some version
  pub matches : VersionMatches version d.req

-- the declared dependency fits this dependency of a node, of this kind and for this target
pub record Fits (n : DependencyEntry) (k : DepKindInfoModel) (d : DependencyModel) : Type 0 where
  pub kind : d.kind ≡ k.kind
  pub name : NameFits n d
  pub version : VersionFits n d
  pub target : d.target ≡ k.target

-- the first element of a list with the property is at this place
pub record FirstAt {A : Type 0} (P : A → Type 0) (xs : List A) (place : ℕ) (x : A) : Type 0 where
  pub here : slice_get xs place ≡ Some x
  pub holds : P x
  pub before : (k : ℕ) (y : A) → k < place → slice_get xs k ≡ Some y → P y → ⊥

-- this place of a list is the first with the property, or no place has it
abbrev pub IsFirstPlace : {A : Type 0} → (A → Type 0) → List A → Option ℕ → Type 0
IsFirstPlace {A} P xs r = MatchOption r ((place : ℕ) (x : A) → slice_get xs place ≡ Some x → P x → ⊥) (λ place. (x : A) × FirstAt P xs place x)

-- the declared dependency fits, and where several of these do, its source is that of the dependency's id
pub record IsMeant (declared : List DependencyModel) (n : DependencyEntry) (k : DepKindInfoModel) (d : DependencyModel) : Type 0 where
  pub fits : Fits n k d
  pub source : HoldsTwice (Fits n k) declared → HasSource n.dep.pkg n.id.source d

-- The declared dependency, among those of the parent's package: the first that is meant. So it is the one that fits, where one
-- does, and the first of the source, where several do.
abbrev pub IsDeclared : List DependencyModel → DependencyEntry → DepKindInfoModel → ℕ → DependencyModel → Type 0
IsDeclared declared n k place d = FirstAt (IsMeant declared n k) declared place d

-- none fits, or several do and none of them has the source
abbrev pub IsUndeclared : List DependencyModel → DependencyEntry → DepKindInfoModel → Type 0
IsUndeclared declared n k = (place : ℕ) (d : DependencyModel) → IsDeclared declared n k place d → ⊥
