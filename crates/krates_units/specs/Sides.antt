-- Which dependencies count for the features of a side, where they lead, and for what the libraries that they lead to are compiled
-- (Cargo Book, "Features", "Feature resolver version 2", and "Build Scripts").
use Rattle.std.specs.Prelude.{◌≡◌, ◌≢◌, ◌⊎◌, List, [], ◌∷◌, true, ⊤}
use Rattle.krates_cm.specs.Document.{TargetModel}
use Rattle.krates_cm.specs.declared.dependency.DependencyKind.{DependencyKind}
use Rattle.krates_cm.specs.declared.dependency.DependencyKind.TheVariants.{Normal, Development, Build}
use Rattle.krates_rules.specs.Facts.{Id, Edge}
use Rattle.krates_rules.specs.Resolved.{Resolved}
use Rattle.krates_units.specs.BuildFacts.{Platform, host, machine, Placement}
use Rattle.krates_units.specs.BuildSetting.{BuildSettingModel, IsFirst, IsLater, machines, asks_dev}
use Rattle.krates_units.specs.BuildTargets.{IsMacro, HasMacro, IsMacroCrate, UsesDev}
use Rattle.krates_units.specs.Machines.{MachineModel, PassesOn}
use Rattle.krates_units.specs.Requests.{IsBuildRoot}
use Rattle.krates_units.specs.declared.kinds.Mode.{Mode}
use Rattle.krates_units.specs.declared.sides.Meeting.{Meeting}
use Rattle.krates_units.specs.declared.sides.Meeting.TheVariants as meetings
use Rattle.krates_units.specs.declared.sides.Side.{Side}
use Rattle.krates_units.specs.declared.sides.Side.TheVariants as sides

-- ---- which dependencies exist

-- a crate that is met so has dependencies of this kind
abbrev pub TakesKind : Meeting → DependencyKind → Type 0
TakesKind meetings.Root kind = ⊤
TakesKind meetings.Dependency kind = kind ≢ Development

-- ---- on which machines a dependency has to pass

-- those of a side, for a dependency of this kind
abbrev pub machines_of : BuildSettingModel → Side → DependencyKind → List MachineModel
machines_of s sides.Host kind = s.host ∷ []
machines_of s sides.Targets Build = s.host ∷ []
machines_of s sides.Targets Normal = machines s.host s.targets
machines_of s sides.Targets Development = machines s.host s.targets

-- that of a platform
abbrev pub machine_of : BuildSettingModel → Platform → List MachineModel
machine_of s host = s.host ∷ []
machine_of s (machine target) = target ∷ []

-- ---- features of a side

-- A root's features count for the targets, and by a later resolver, if some target of it is a procedural macro, for the host too. That an
-- example counts here was found by trial.
pub data StartsOn (r : Resolved) (s : BuildSettingModel) (i : Id) : Side → Type 0 where
  on_targets : StartsOn r s i sides.Targets
  on_host : IsLater s.resolver → HasMacro r i → StartsOn r s i sides.Host

-- The edge counts for the features of a side. The first resolver looks at no target text; a dev dependency counts only of a root, and
-- by a later resolver only if a kind of target is asked for that has dev dependencies.
pub record Counts (r : Resolved) (s : BuildSettingModel) (side : Side) (e : Edge) : Type 0 where
  pub of_root : e.kind ≡ Development → IsBuildRoot r s e.parent × (IsFirst s.resolver ⊎ (asks_dev s.kinds ≡ true))
  pub passes : IsLater s.resolver → PassesOn (machines_of s side e.kind) e.cfg

-- From a side the edge leads to a side: by a later resolver, build dependencies and procedural macros are on the host, and so is all
-- below them.
pub data Leads (r : Resolved) (s : BuildSettingModel) (side : Side) (e : Edge) : Side → Type 0 where
  as_one : IsFirst s.resolver → Leads r s side e sides.Targets
  to_host : IsLater s.resolver → (side ≡ sides.Host) ⊎ (e.kind ≡ Build) ⊎ IsMacroCrate r e.child → Leads r s side e sides.Host
  to_targets : IsLater s.resolver → side ≡ sides.Targets → e.kind ≢ Build → ¬ IsMacroCrate r e.child → Leads r s side e sides.Targets

-- The side on which a target that requires features looks for those of the edge's child. That any procedural macro counts here, and not
-- only the child's library, was found by trial.
pub data LooksOn (r : Resolved) (s : BuildSettingModel) (e : Edge) : Side → Type 0 where
  as_one : IsFirst s.resolver → LooksOn r s e sides.Targets
  on_host : IsLater s.resolver → (e.kind ≡ Build) ⊎ HasMacro r e.child → LooksOn r s e sides.Host
  on_targets : IsLater s.resolver → e.kind ≢ Build → ¬ HasMacro r e.child → LooksOn r s e sides.Targets

-- ---- units

-- what is compiled for the first side has the features of the second: by the first resolver there is one
pub data HasFeaturesOf (s : BuildSettingModel) : Side → Side → Type 0 where
  as_one : {side : Side} → IsFirst s.resolver → HasFeaturesOf s side sides.Targets
  own : {side : Side} → IsLater s.resolver → HasFeaturesOf s side side

-- what the build itself runs
abbrev pub host_placement : Placement
host_placement = record { platform = host; side = sides.Host }

-- a procedural macro is compiled for the host, any other target for what needs it
pub data GoesTo (t : TargetModel) (needed : Placement) : Placement → Type 0 where
  to_host : IsMacro t → GoesTo t needed host_placement
  along : ¬ IsMacro t → GoesTo t needed needed

-- the target has dependencies of this kind, in this mode
pub data HasKind (t : TargetModel) (mode : Mode) : DependencyKind → Type 0 where
  always : HasKind t mode Normal
  for_tests : UsesDev t mode → HasKind t mode Development
