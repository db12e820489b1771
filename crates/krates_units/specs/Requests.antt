-- Which packages are asked for, whose features are resolved first, and which references are requested of them (Cargo Book,
-- "Features", "Command-line feature options", and "cargo build", "Package Selection").
use Rattle.std.specs.Prelude.{◌≡◌, ◌≢◌, ◌⊎◌, List, true, false, Some, None, Contains, ⊤}
use Rattle.krates_cm.specs.Document.{Text, PackageModel, DependencyModel}
use Rattle.krates_ids.specs.Correction.{named}
use Rattle.krates_ids.specs.PackageSpecification.{Specification, SpecFits}
use Rattle.krates_text.specs.FeatureReference.{Reference, IsReference, simple}
use Rattle.krates_rules.specs.DeclaredDependency.{declared_name}
use Rattle.krates_rules.specs.Facts.{Id}
use Rattle.krates_rules.specs.Resolved.{Resolved, ReadsAs, IsMember, HasPackage}
use Rattle.krates_rules.specs.Rules.{default_name}
use Rattle.krates_units.specs.BuildSetting.{BuildSettingModel, IsLater, default_members, every_member, packages}
use Rattle.krates_units.specs.FeaturesNamed.{NamesFeatureOf}
use Rattle.krates_units.specs.Resolves.{HasDeclared}

-- ---- what a package has

-- the crate's package has the feature
pub record HasFeature (r : Resolved) (i : Id) (feature : Text) : Type 0 where
  pub pkg : PackageModel
  pub has_package : HasPackage r i pkg
  pub values : List Text
  pub is : named pkg.features feature ≡ Some values

-- the crate declares a dependency of this name
abbrev pub KnowsName : Resolved → Id → Text → Type 0
KnowsName r i name = (d : DependencyModel) × HasDeclared r i d × (declared_name d ≡ name)

-- the crate declares an optional dependency of this name
abbrev pub KnowsOptional : Resolved → Id → Text → Type 0
KnowsOptional r i name = (d : DependencyModel) × HasDeclared r i d × (declared_name d ≡ name) × (d.optional ≡ true)

-- the command line may ask the crate for this name: a feature, or an optional dependency
abbrev pub MayAsk : Resolved → Id → Text → Type 0
MayAsk r i name = HasFeature r i name ⊎ KnowsOptional r i name

-- the dependency, which leads to this crate, gives it the feature
pub data GivesFeature (r : Resolved) (d : DependencyModel) (child : Id) : Text → Type 0 where
  declared : {feature : Text} → Contains d.features feature → GivesFeature r d child feature
  by_default : d.uses_default_features ≡ true → HasFeature r child default_name → GivesFeature r d child default_name

-- ---- what is selected

-- the crate is the package of the folder of the build, which is a member
pub record IsCurrent (r : Resolved) (i : Id) : Type 0 where
  pub text : Text
  pub root : r.graph.root ≡ Some text
  pub id : ReadsAs text i
  pub member : IsMember r i

-- one of these texts is read as the crate
pub record IsReadAmong (texts : List Text) (i : Id) : Type 0 where
  pub text : Text
  pub among : Contains texts text
  pub id : ReadsAs text i

-- The crate is a default member. A document that doesn't say has the package of the folder, or else all members. One that names
-- none has none: cargo then builds nothing, and refuses.
pub data IsDefaultMember (r : Resolved) (i : Id) : Type 0 where
  written : {ids : List Text} → r.metadata.workspace_default_members ≡ Some ids → IsReadAmong ids i → IsMember r i
      → IsDefaultMember r i
  current : r.metadata.workspace_default_members ≡ None → IsCurrent r i → IsDefaultMember r i
  member : r.metadata.workspace_default_members ≡ None → r.graph.root ≡ None → IsMember r i → IsDefaultMember r i

-- the crate is asked for
pub data IsSelected (r : Resolved) (s : BuildSettingModel) (i : Id) : Type 0 where
  by_default : s.selection ≡ default_members → IsDefaultMember r i → IsSelected r s i
  as_member : s.selection ≡ every_member → IsMember r i → IsSelected r s i
  as_specified : {specs : List Specification} {spec : Specification} {p : PackageModel} → s.selection ≡ packages specs
      → Contains specs spec → HasPackage r i p → SpecFits spec p → IsSelected r s i

-- the member is asked for
abbrev pub IsSelectedMember : Resolved → BuildSettingModel → Id → Type 0
IsSelectedMember r s i = IsMember r i × IsSelected r s i

-- no member is asked for, only other packages
abbrev pub SelectsNoMember : Resolved → BuildSettingModel → Type 0
SelectsNoMember r s = (i : Id) → ¬ IsSelectedMember r s i

-- ---- the roots

-- features are requested of each selected member alike: the resolver is a later one, or the folder's manifest has no package
abbrev pub AsksAlike : Resolved → BuildSettingModel → Type 0
AsksAlike r s = IsLater s.resolver ⊎ (r.graph.root ≡ None)

-- Why the features of a crate are resolved as those of a root. Where members are asked alike, it is a selected member, or any member
-- if none is selected. Otherwise it is the package of the folder, even if that isn't selected, or another member that is. The
-- Cargo Book has the first and the last; the others were found by trial.
pub data RootKind : Type 0 where
  alike : RootKind
  unselected : RootKind
  current : RootKind
  other : RootKind

-- the crate is a root of this kind
abbrev pub IsBuildRootAs : Resolved → BuildSettingModel → Id → RootKind → Type 0
IsBuildRootAs r s i alike = AsksAlike r s × IsSelectedMember r s i
IsBuildRootAs r s i unselected = AsksAlike r s × SelectsNoMember r s × IsMember r i
IsBuildRootAs r s i current = ¬ AsksAlike r s × IsCurrent r i
IsBuildRootAs r s i other = ¬ AsksAlike r s × ¬ IsCurrent r i × IsSelectedMember r s i

-- the crate is a root
abbrev pub IsBuildRoot : Resolved → BuildSettingModel → Id → Type 0
IsBuildRoot r s i = (kind : RootKind) × IsBuildRootAs r s i kind

-- ---- what is requested of them

-- the defaults of a root of this kind are requested
abbrev pub AsksDefaults : BuildSettingModel → RootKind → Type 0
AsksDefaults s alike = s.no_default_features ≡ false
AsksDefaults s unselected = ⊤
AsksDefaults s current = s.no_default_features ≡ false
AsksDefaults s other = ⊤

-- the command line names the reference
pub record IsGiven (s : BuildSettingModel) (v : Reference) : Type 0 where
  pub text : Text
  pub among : Contains s.features text
  pub is : IsReference text v

-- a crate with the property has this name
abbrev pub IsNameOfSome : (Id → Type 0) → Text → Type 0
IsNameOfSome P name = (i : Id) × P i × (i.name ≡ name)

-- the reference is for another member than the package of the folder: its name is that of one, and of a package that is asked for
pub record IsForOther (r : Resolved) (s : BuildSettingModel) (v : Reference) : Type 0 where
  pub name : Text
  pub feature : Text
  pub names : NamesFeatureOf v name feature
  pub other : IsNameOfSome (λ i. IsMember r i × ¬ IsCurrent r i) name
  pub selected : IsNameOfSome (IsSelected r s) name

-- where members are asked alike, the crate takes this of the reference: what it has
pub data TakesAlike (r : Resolved) (i : Id) (v : Reference) : Reference → Type 0 where
  own : {f : Text} → v ≡ simple f → MayAsk r i f → TakesAlike r i v v
  of_dependency : (name f : Text) → NamesFeatureOf v name f → KnowsName r i name → TakesAlike r i v v
  by_crate : (name f : Text) → NamesFeatureOf v name f → ¬ KnowsName r i name → i.name ≡ name → MayAsk r i f
      → TakesAlike r i v (simple f)

-- another member than the package of the folder takes this of the reference: a feature under its own name
pub record TakesOther (i : Id) (v w : Reference) : Type 0 where
  pub feature : Text
  pub names : NamesFeatureOf v i.name feature
  pub is : w ≡ simple feature

-- a root of the kind takes this of the reference; where members aren't asked alike, the package of the folder takes all but what is
-- for another member, even if it has no such feature
abbrev pub Takes : Resolved → BuildSettingModel → Id → RootKind → Reference → Reference → Type 0
Takes r s i alike v w = TakesAlike r i v w
Takes r s i unselected v w = ⊥
Takes r s i current v w = ¬ IsForOther r s v × (w ≡ v)
Takes r s i other v w = TakesOther i v w

-- the reference is requested of the root
pub data IsRequested (r : Resolved) (s : BuildSettingModel) (i : Id) : Reference → Type 0 where
  default : (kind : RootKind) → IsBuildRootAs r s i kind → AsksDefaults s kind → HasFeature r i default_name
      → IsRequested r s i (simple default_name)
  each : {f : Text} (kind : RootKind) → IsBuildRootAs r s i kind → kind ≢ unselected → s.all_features ≡ true → HasFeature r i f
      → IsRequested r s i (simple f)
  taken : {v w : Reference} (kind : RootKind) → IsBuildRootAs r s i kind → IsGiven s v → Takes r s i kind v w
      → IsRequested r s i w
