-- What cargo builds, beside what the seven rules keep: they keep it where their setting leaves out nothing that may count for the build, and
-- nothing else where the build is a plain one.
use Rattle.std.specs.Prelude.{◌≡◌, ◌≢◌, ◌⊎◌, ◌↔◌, [], ◌∷◌, true, Contains, ⊤}
use Rattle.krates_cm.specs.Document.{Text, TargetModel, DependencyModel}
use Rattle.krates_cm.specs.declared.dependency.DependencyKind.TheVariants.{Normal, Development, Build}
use Rattle.krates_cm.specs.declared.target.TargetKind.TheVariants as kinds
use Rattle.krates_text.specs.FeatureReference.{Reference, krate, strong, simple}
use Rattle.krates_rules.specs.Admission.{NoneDoubled}
use Rattle.krates_rules.specs.DeclaredDependency.{declared_name}
use Rattle.krates_rules.specs.Derivation.{Derivable}
use Rattle.krates_rules.specs.Facts.{Id, Edge, Crate, Feature, Kept}
use Rattle.krates_rules.specs.Features.{ListsFeature, HasReference}
use Rattle.krates_rules.specs.Narrowing.{LosesNothing}
use Rattle.krates_rules.specs.Questions.{IsDeclaredAs, IsWanted, Stands, questions}
use Rattle.krates_rules.specs.Referent.{IsReferent}
use Rattle.krates_rules.specs.Resolved.{Resolved}
use Rattle.krates_rules.specs.Roots.{IsRoot}
use Rattle.krates_rules.specs.Rules.{default_name}
use Rattle.krates_rules.specs.Setting.{SettingModel, IsIgnored, Passes}
use Rattle.krates_units.specs.BuildFacts.{Platform, Placement, host, machine, RunNeeded}
use Rattle.krates_units.specs.BuildSetting.{BuildSettingModel, IsFirst, IsLater, asks_dev, machines}
use Rattle.krates_units.specs.BuildTargets.{AsksFor, HasTarget, HasTargetThat, IsLibrary, IsMacro, IsMacroCrate, IsScript}
use Rattle.krates_units.specs.Built.{IsDerivable, IsBuilt, IsBuiltWith, IsNeeded}
use Rattle.krates_units.specs.FeaturesNamed.{NamesDependency}
use Rattle.krates_units.specs.Machines.{MachineModel, PassesOn}
use Rattle.krates_units.specs.Requests.{HasFeature, IsBuildRoot, IsRequested, IsSelected, KnowsOptional}
use Rattle.krates_units.specs.Resolves.{Resolves}
use Rattle.krates_units.specs.declared.kinds.Mode.{Mode}
use Rattle.krates_units.specs.declared.setting.Resolver.{Resolver}

-- ---- what of a build is meant

-- all of it, or what is compiled for the machines that it is for, without build scripts, procedural macros and what they need
pub data Extent : Type 0 where
  everything : Extent
  for_targets : Extent

-- what is compiled for the platform is meant
abbrev pub IncludesPlatform : Extent → Platform → Type 0
IncludesPlatform everything k = ⊤
IncludesPlatform for_targets host = ⊥
IncludesPlatform for_targets (machine m) = ⊤

-- the first resolver doesn't tell the targets' features from those of the host
abbrev pub SuitsResolver : Extent → Resolver → Type 0
SuitsResolver everything v = ⊤
SuitsResolver for_targets v = IsLater v

-- from what is compiled for the targets the edge leads to what is so
pub record StaysOnTargets (r : Resolved) (e : Edge) : Type 0 where
  pub kind : e.kind ≢ Build
  pub child : ¬ IsMacroCrate r e.child

-- what the edge leads to is meant
abbrev pub IncludesEdge : Resolved → Extent → Edge → Type 0
IncludesEdge r everything e = ⊤
IncludesEdge r for_targets e = StaysOnTargets r e

-- ---- which edges may count

-- the dev dependencies of the crate may count: the build begins with it, and is by the first resolver or asks for targets that have some
pub record MayUseDev (r : Resolved) (s : BuildSettingModel) (i : Id) : Type 0 where
  pub first : IsBuildRoot r s i ⊎ IsSelected r s i
  pub counts : IsFirst s.resolver ⊎ (asks_dev s.kinds ≡ true)

-- the edge may count for what is meant: by the first resolver whatever its target text is, by a later one if it passes on some machine
pub record MayCount (r : Resolved) (s : BuildSettingModel) (x : Extent) (e : Edge) : Type 0 where
  pub meant : IncludesEdge r x e
  pub passes : IsFirst s.resolver ⊎ PassesOn (s.host ∷ machines s.host s.targets) e.cfg
  pub dev : e.kind ≡ Development → MayUseDev r s e.parent

-- the seven rules may keep the edge, and know its dependency as cargo does
pub record AllowsEdge (r : Resolved) (t : SettingModel) (e : Edge) (d : DependencyModel) : Type 0 where
  pub declared : IsDeclaredAs r e d
  pub not_ignored : ¬ IsIgnored r t e
  pub passes : Passes t e.cfg
  pub stands : Stands r t e.child
  -- the name that the manifest has for the dependency means the child
  pub named : IsReferent r t.all_named e.parent (declared_name d) e.child
  -- the child's node lists `default` if the dependency gives it
  pub default : d.uses_default_features ≡ true → HasFeature r e.child default_name → ListsFeature r e.child default_name

-- ---- all that is meant

-- the reference names a feature that the crate's node lists
abbrev pub IsListed : Resolved → Id → Reference → Type 0
IsListed r i v = (f : Text) × (v ≡ simple f) × ListsFeature r i f

-- A reference `c/g` of the first feature to an optional dependency also turns on the feature `c` of the crate, if it has one. Here the first
-- feature does so anyway, since it is that feature or lists it, or that feature lists nothing but the dependency.
pub data IsNamedBeside (r : Resolved) (i : Id) (f c : Text) : Type 0 where
  itself : f ≡ c → IsNamedBeside r i f c
  listed : HasReference r i f (simple c) → IsNamedBeside r i f c
  alone : ((v : Reference) → HasReference r i c v → v ≡ krate c) → IsNamedBeside r i f c

-- the target is of one kind: a library or a program is no test and no example, and a crate with a procedural macro has no other library
pub record IsOfOneKind (r : Resolved) (i : Id) (l : TargetModel) : Type 0 where
  pub no_test : IsLibrary l ⊎ Contains l.kind kinds.Bin → ¬ (Contains l.kind kinds.Test ⊎ Contains l.kind kinds.Example)
  pub only_macro : IsLibrary l → IsMacroCrate r i → IsMacro l

-- the seven rules, under the second setting, leave out nothing that may count for what is meant of the build
pub record AllowsBuild (r : Resolved) (s : BuildSettingModel) (t : SettingModel) (x : Extent) : Type 0 where
  pub resolver : SuitsResolver x s.resolver
  pub none_doubled : NoneDoubled r.metadata r.graph
  pub loses_nothing : LosesNothing (questions r t)
  -- what the build begins with is a root, and has a package and a node
  pub roots : (i : Id) → IsBuildRoot r s i ⊎ IsSelected r s i → IsRoot r t i × Stands r t i
  -- only features that the root's node lists are requested, and none of a dependency
  pub requested : (i : Id) (v : Reference) → IsRequested r s i v → IsListed r i v
  pub edges : (e : Edge) (d : DependencyModel) → Resolves r e d → MayCount r s x e → AllowsEdge r t e d
  -- no reference to a feature of an optional dependency turns on a feature of the crate that they don't
  pub implied : (i : Id) (f c g : Text) → HasReference r i f (strong c g) → KnowsOptional r i c → IsNamedBeside r i f c
  pub targets : (i : Id) (l : TargetModel) → HasTarget r i l → IsOfOneKind r i l

-- the seven rules keep what cargo builds for the platforms that are meant
pub record KeepsBuild (r : Resolved) (s : BuildSettingModel) (t : SettingModel) (x : Extent) : Type 0 where
  -- each crate
  pub crates : (i : Id) (k : Platform) → IncludesPlatform x k → IsBuilt r s i k → Derivable (questions r t) (Crate i)
  -- each edge over which something is needed
  pub edges : (e : Edge) (k l : Platform) → IncludesPlatform x l → IsNeeded r s e k l → Derivable (questions r t) (Kept e)
  -- each edge over which a run of a build script needs another
  pub runs : (e : Edge) (d : DependencyModel) (from run : Placement) → IncludesPlatform x run.platform
      → IsDerivable r s (RunNeeded e d from run) → Derivable (questions r t) (Kept e)
  -- each feature with which a crate is built, but for the names of optional dependencies
  pub features : (i : Id) (k : Platform) (f : Text) → IncludesPlatform x k → IsBuiltWith r s i k f → ¬ KnowsOptional r i f
      → Derivable (questions r t) (Feature i f)

-- a setting that leaves out nothing that may count keeps what cargo builds
abbrev pub KeepsEachBuild : Type 0
KeepsEachBuild = (r : Resolved) (s : BuildSettingModel) (t : SettingModel) (x : Extent) → AllowsBuild r s t x → KeepsBuild r s t x

-- ---- nothing else

-- the feature is requested of the crate, or one that is so enables it
pub data IsAskedOf (r : Resolved) (s : BuildSettingModel) (i : Id) : Text → Type 0 where
  requested : {f : Text} → IsRequested r s i (simple f) → IsAskedOf r s i f
  enabled : {f g : Text} → IsAskedOf r s i f → HasReference r i f (simple g) → IsAskedOf r s i g

-- the root is one of the build too, and a target of it is asked for that requires no features
pub record IsPlainRoot (r : Resolved) (s : BuildSettingModel) (i : Id) : Type 0 where
  pub root : IsBuildRoot r s i
  pub selected : IsSelected r s i
  pub target : TargetModel
  pub mode : Mode
  pub has : HasTarget r i target
  pub no_script : ¬ IsScript target
  pub no_macro : ¬ IsMacro target
  pub asked : AsksFor s.kinds target mode
  pub none_required : target.required_features ≡ []

-- the target is a library, and no procedural macro
abbrev pub IsPlainLibrary : TargetModel → Type 0
IsPlainLibrary l = IsLibrary l × ¬ IsMacro l

-- the edge is of a normal dependency, which cargo resolves by it, passes on the machine, and leads to such a library
pub record IsPlainEdge (r : Resolved) (m : MachineModel) (e : Edge) (d : DependencyModel) : Type 0 where
  pub resolves : Resolves r e d
  pub normal : e.kind ≡ Normal
  pub passes : PassesOn (m ∷ []) e.cfg
  pub library : HasTargetThat r e.child IsPlainLibrary

-- Nothing that the seven rules may keep, under the second setting, is left out of the build for this machine. So the roots are those of
-- the build, what their nodes list is asked of them, and no dependency that they may keep is for the host or for tests.
pub record IsPlainBuild (r : Resolved) (s : BuildSettingModel) (t : SettingModel) (m : MachineModel) : Type 0 where
  pub extent : Extent
  pub allows : AllowsBuild r s t extent
  pub among : Contains (machines s.host s.targets) m
  pub roots : (i : Id) → IsRoot r t i → Stands r t i → IsPlainRoot r s i
  pub asked : (i : Id) (f : Text) → IsRoot r t i → Stands r t i → ListsFeature r i f → IsAskedOf r s i f
  pub edges : (e : Edge) (d : DependencyModel) → IsWanted r t e d → Stands r t e.child → IsPlainEdge r m e d
  -- a name in a reference that means the child is the one that the manifest has for it
  pub names : (e : Edge) (d : DependencyModel) (f c : Text) (v : Reference) → Resolves r e d → HasReference r e.parent f v
      → NamesDependency v c → IsReferent r t.all_named e.parent c e.child → declared_name d ≡ c
  -- what a node lists, its package has
  pub listed : (i : Id) (f : Text) → ListsFeature r i f → HasFeature r i f

-- cargo builds for the machine what the seven rules keep, and nothing else
pub record BuildsKept (r : Resolved) (s : BuildSettingModel) (t : SettingModel) (m : MachineModel) : Type 0 where
  pub crates : (i : Id) → IsBuilt r s i (machine m) ↔ Derivable (questions r t) (Crate i)
  pub edges : (e : Edge) → IsNeeded r s e (machine m) (machine m) ↔ Derivable (questions r t) (Kept e)
  -- with at least the features that they enable; with their names alone that of a dependency may be beside
  pub features : (i : Id) (f : Text) → Derivable (questions r t) (Feature i f) → IsBuiltWith r s i (machine m) f

-- a plain build is of what the seven rules keep
abbrev pub BuildsEachKept : Type 0
BuildsEachKept = (r : Resolved) (s : BuildSettingModel) (t : SettingModel) (m : MachineModel) → IsPlainBuild r s t m → BuildsKept r s t m
