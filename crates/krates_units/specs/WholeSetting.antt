-- The setting of the seven rules that leaves out nothing that may count, under which they keep what is built of the members of a workspace.
use Rattle.std.specs.Prelude.{◌≡◌, ◌⊎◌, [], Bool, true, false, Option, MatchOption, ⊤}
use Rattle.krates_cm.specs.Document.{Text, TargetModel, PackageModel, NodeModel, DependencyModel}
use Rattle.krates_cm.specs.declared.dependency.DependencyKind.{DependencyKind}
use Rattle.krates_cm.specs.declared.dependency.DependencyKind.TheVariants.{Normal, Development, Build}
use Rattle.krates_text.specs.FeatureReference.{Reference, strong}
use Rattle.krates_text.specs.Passing.{TellsPassing}
use Rattle.krates_rules.specs.Admission.{NoneDoubled}
use Rattle.krates_rules.specs.DeclaredDependency.{declared_name}
use Rattle.krates_rules.specs.Facts.{Id, Edge}
use Rattle.krates_rules.specs.Features.{ListsFeature, HasReference}
use Rattle.krates_rules.specs.Kind.{ignores, kind_of}
use Rattle.krates_rules.specs.Narrowing.{LosesNothing}
use Rattle.krates_rules.specs.Questions.{IsDeclaredAs, questions}
use Rattle.krates_rules.specs.Referent.{AnswersIn}
use Rattle.krates_rules.specs.Resolved.{Resolved, HasNode, HasPackage, IsMember}
use Rattle.krates_rules.specs.Rules.{default_name}
use Rattle.krates_rules.specs.Setting.{SettingModel}
use Rattle.krates_units.specs.BuildSetting.{BuildSettingModel, IsFirst, asks_dev}
use Rattle.krates_units.specs.BuildTargets.{HasTarget}
use Rattle.krates_units.specs.KeptBuild.{AllowsBuild, Extent, everything, IsListed, IsNamedBeside, IsOfOneKind, SuitsResolver}
use Rattle.krates_units.specs.Requests.{HasFeature, IsRequested, IsSelected, KnowsOptional}
use Rattle.krates_units.specs.Resolves.{Resolves}

-- dependencies of this kind may count for what is meant of the build
abbrev pub MeansKind : BuildSettingModel → Extent → DependencyKind → Type 0
MeansKind s x Normal = ⊤
MeansKind s x Development = IsFirst s.resolver ⊎ (asks_dev s.kinds ≡ true)
MeansKind s x Build = x ≡ everything

-- The setting leaves out nothing that may count: each member is a root, no package is excluded, no kind is ignored that may count, no target is
-- set, and a name means all dependencies that match it.
pub record LeavesOutNothing (s : BuildSettingModel) (x : Extent) (t : SettingModel) : Type 0 where
  pub manifests : t.manifests ≡ []
  pub workspace : t.workspace ≡ true
  pub exclusions : t.exclusions ≡ []
  pub ignored : (kind : DependencyKind) (is_member : Bool) → MeansKind s x kind → ignores t.ignored (kind_of kind) is_member ≡ false
  pub targets : t.targets ≡ []
  pub all_named : t.all_named ≡ true

-- the seven rules know the dependency by what cargo knows it by
pub record IsKnownEdge (r : Resolved) (e : Edge) (d : DependencyModel) : Type 0 where
  -- the edge is declared as the dependency
  pub declared : IsDeclaredAs r e d
  -- the name that the manifest has for the dependency means the child
  pub named : AnswersIn r e.parent (declared_name d) e.child
  -- the child's node lists `default` if the dependency gives it
  pub default : d.uses_default_features ≡ true → HasFeature r e.child default_name → ListsFeature r e.child default_name

-- the document has what cargo writes into each
pub record IsWholeDocument (r : Resolved) : Type 0 where
  pub none_doubled : NoneDoubled r.metadata r.graph
  pub packages : (i : Id) → IsMember r i → (p : PackageModel) × HasPackage r i p
  pub nodes : (i : Id) (p : PackageModel) → HasPackage r i p → (n : NodeModel) × HasNode r i n
  pub edges : (e : Edge) (d : DependencyModel) → Resolves r e d → IsKnownEdge r e d
  -- no reference to a feature of an optional dependency turns on a feature of the crate that the seven rules don't
  pub implied : (i : Id) (f c g : Text) → HasReference r i f (strong c g) → KnowsOptional r i c → IsNamedBeside r i f c
  pub targets : (i : Id) (l : TargetModel) → HasTarget r i l → IsOfOneKind r i l

-- the target text passes where no target is set, as it does unless it is false without a look at a target
abbrev pub PassesSomewhere : Option Text → Type 0
PassesSomewhere cfg = MatchOption cfg ⊤ (λ text. TellsPassing text [] true)

-- The build is of members, with features that their nodes list and none of a dependency. The first resolver counts a dependency with a
-- target text that is never true, which the seven rules don't.
pub record IsOfMembers (r : Resolved) (s : BuildSettingModel) : Type 0 where
  pub selected : (i : Id) → IsSelected r s i → IsMember r i
  pub requested : (i : Id) (v : Reference) → IsRequested r s i v → IsListed r i v
  pub texts : IsFirst s.resolver → (e : Edge) (d : DependencyModel) → Resolves r e d → PassesSomewhere e.cfg

-- of a whole document, the setting that leaves out nothing that may count allows each build of members, if the seven rules lose nothing
abbrev pub AllowsEachBuild : Type 0
AllowsEachBuild = (r : Resolved) (s : BuildSettingModel) (t : SettingModel) (x : Extent) → IsWholeDocument r → IsOfMembers r s
    → SuitsResolver x s.resolver → LeavesOutNothing s x t → LosesNothing (questions r t) → AllowsBuild r s t x
