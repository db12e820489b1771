-- Which requests of a build name something (Cargo Book, "cargo build", "Package Selection", and "Features", "Command-line feature
-- options"; who takes a feature, and which packages have to have it, was found by trial). Cargo refuses a build of which a request
-- names nothing. What else it refuses isn't asked here: a specification that fits several packages, or only one that the build
-- doesn't reach.
use Rattle.std.specs.Prelude.{◌≡◌, ◌⊎◌, List, [], true, Contains, codes}
use Rattle.krates_cm.specs.Document.{Text, DependencyModel, PackageModel}
use Rattle.krates_ids.specs.PackageSpecification.{Specification, SpecFits}
use Rattle.krates_text.specs.FeatureReference.{Reference, IsReference, krate, weak, strong, simple}
use Rattle.krates_text.specs.Text.{LacksText}
use Rattle.krates_rules.specs.DeclaredDependency.{declared_name}
use Rattle.krates_rules.specs.Facts.{Id, Edge}
use Rattle.krates_rules.specs.Resolved.{Resolved}
use Rattle.krates_units.specs.BuildSetting.{BuildSettingModel, SelectionModel, default_members, every_member, packages}
use Rattle.krates_units.specs.Requests.{RootKind, AsksAlike, HasFeature, IsBuildRootAs, IsSelected, KnowsName, SelectsNoMember, Takes}
use Rattle.krates_units.specs.Resolves.{Resolves}

-- ---- packages

-- the specifications that the command line has
abbrev pub specifications : SelectionModel → List Specification
specifications default_members = []
specifications every_member = []
specifications (packages specs) = specs

-- a package of the document fits the specification
pub record NamesPackage (r : Resolved) (spec : Specification) : Type 0 where
  pub pkg : PackageModel
  pub among : Contains r.metadata.packages pkg
  pub fits : SpecFits spec pkg

-- each specification names a package
abbrev pub NamesPackages : Resolved → BuildSettingModel → Type 0
NamesPackages r s = (spec : Specification) → Contains (specifications s.selection) spec → NamesPackage r spec

-- some crate is asked for; none is where a workspace has no members, or no default ones
abbrev pub SelectsSome : Resolved → BuildSettingModel → Type 0
SelectsSome r s = (i : Id) × IsSelected r s i

-- ---- features

-- The crate declares a dependency of this name, and each package that the name leads to has the feature, even if the dependency is
-- optional, for tests or for another target. One that the document has no edge for leads nowhere. A second slash is refused.
pub record HasFeatureOf (r : Resolved) (i : Id) (name feature : Text) : Type 0 where
  pub knows : KnowsName r i name
  pub one_slash : LacksText (codes "/") feature
  pub each : (e : Edge) (d : DependencyModel) → Resolves r e d → e.parent ≡ i → declared_name d ≡ name → HasFeature r e.child feature

-- the crate has what the reference names: the feature, or that of the dependency; the command line may not say `dep:`
abbrev pub HasNamed : Resolved → Id → Reference → Type 0
HasNamed r i (krate d) = ⊥
HasNamed r i (weak d f) = HasFeatureOf r i d f
HasNamed r i (strong d f) = HasFeatureOf r i d f
HasNamed r i (simple f) = HasFeature r i f

-- the crate is a root, and takes this of the reference
pub record TakesAsRoot (r : Resolved) (s : BuildSettingModel) (i : Id) (v w : Reference) : Type 0 where
  pub kind : RootKind
  pub root : IsBuildRootAs r s i kind
  pub takes : Takes r s i kind v w

-- the crate takes something of the reference
abbrev pub TakesSome : Resolved → BuildSettingModel → Reference → Id → Type 0
TakesSome r s v i = (w : Reference) × TakesAsRoot r s i v w

-- The crate takes of the reference what it doesn't have. The package of the folder may, where it takes all; a member may that has an
-- optional dependency of the name, but no feature, since `dep:` hides it; and so may each whose dependency lacks the feature.
abbrev pub TakesLacking : Resolved → BuildSettingModel → Reference → Id → Type 0
TakesLacking r s v i = (w : Reference) × TakesAsRoot r s i v w × ¬ HasNamed r i w

-- the text names a feature: some crate takes something of it, and none takes what it doesn't have
pub record NamesFeature (r : Resolved) (s : BuildSettingModel) (text : Text) : Type 0 where
  pub reference : Reference
  pub is : IsReference text reference
  pub taken : (i : Id) × TakesSome r s reference i
  pub none_lacking : (i : Id) → ¬ TakesLacking r s reference i

-- each text names a feature
abbrev pub NamesFeatures : Resolved → BuildSettingModel → Type 0
NamesFeatures r s = (text : Text) → Contains s.features text → NamesFeature r s text

-- `--all-features` or `--no-default-features` is said
abbrev pub HasFeatureFlag : BuildSettingModel → Type 0
HasFeatureFlag s = (s.all_features ≡ true) ⊎ (s.no_default_features ≡ true)

-- such a flag is said where members are asked alike and none is selected, so that no crate takes it
pub record HasIdleFlag (r : Resolved) (s : BuildSettingModel) : Type 0 where
  pub flag : HasFeatureFlag s
  pub alike : AsksAlike r s
  pub none_selected : SelectsNoMember r s

-- ---- the whole request

-- each part of the request names something
pub record IsAnswered (r : Resolved) (s : BuildSettingModel) : Type 0 where
  pub packages : NamesPackages r s
  pub some_selected : SelectsSome r s
  pub features : NamesFeatures r s
  pub no_idle_flag : ¬ HasIdleFlag r s
