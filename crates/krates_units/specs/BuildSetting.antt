-- What a build is asked for: the words of `cargo build`, the resolver, and the machines (Cargo Book, "cargo build",
-- "Features", "Feature resolver version 2").
use Rattle.std.specs.Prelude.{◌||◌, List, [], ◌∷◌, Bool, ⊤, map, string_bytes}
use Rattle.krates_cm.specs.Document.{Text}
use Rattle.krates_ids.specs.PackageSpecification.{Specification, spec_view}
use Rattle.krates_units.specs.Machines.{MachineModel, machine_view}
use Rattle.krates_units.specs.declared.setting.BuildSetting.{BuildSetting}
use Rattle.krates_units.specs.declared.setting.PackageSelection.{PackageSelection}
use Rattle.krates_units.specs.declared.setting.PackageSelection.TheVariants as selections
use Rattle.krates_units.specs.declared.setting.Resolver.{Resolver}
use Rattle.krates_units.specs.declared.setting.Resolver.TheVariants.{V1, V2, V3}
use Rattle.krates_units.specs.declared.setting.TargetFlags.{TargetFlags}

-- ---- the resolver

-- the first resolver: a crate has one set of features
abbrev pub IsFirst : Resolver → Type 0
IsFirst V1 = ⊤
IsFirst V2 = ⊥
IsFirst V3 = ⊥

-- A later resolver: a crate has a set of features for the targets and one for the host. The versions 2 and 3 are one here, since
-- they differ only in which versions of packages cargo chooses, which the document already says (Cargo Book, "Resolver versions").
abbrev pub IsLater : Resolver → Type 0
IsLater V1 = ⊥
IsLater V2 = ⊤
IsLater V3 = ⊤

-- ---- what is asked for

-- which packages are asked for
pub data SelectionModel : Type 0 where
  default_members : SelectionModel
  every_member : SelectionModel
  packages : (specs : List Specification) → SelectionModel

-- a selection, as clauses see it
abbrev pub selection_view : PackageSelection → SelectionModel
selection_view selections.DefaultMembers = default_members
selection_view selections.Workspace = every_member
selection_view (selections.Packages specs) = packages (map spec_view specs.items)

-- what a build is asked for
pub record BuildSettingModel : Type 0 where
  pub resolver : Resolver
  pub host : MachineModel  -- the machine that builds
  pub targets : List MachineModel  -- the machines that it builds for; if there are none, the host
  pub selection : SelectionModel
  pub features : List Text  -- each as the command line has it
  pub all_features : Bool
  pub no_default_features : Bool
  pub kinds : TargetFlags

-- what a build is asked for, as clauses see it
abbrev pub build_setting_view : BuildSetting → BuildSettingModel
build_setting_view s = record {
  resolver = s.resolver;
  host = machine_view s.host;
  targets = map machine_view s.targets.items;
  selection = selection_view s.selection;
  features = map string_bytes s.features.items;
  all_features = s.all_features;
  no_default_features = s.no_default_features;
  kinds = s.kinds;
}

-- the machines that a build is for
abbrev pub machines : MachineModel → List MachineModel → List MachineModel
machines host [] = host ∷ []
machines host (one ∷ more) = one ∷ more

-- ---- the kinds of targets

-- whether some kind of target is asked for
abbrev pub asks_kinds : TargetFlags → Bool
asks_kinds k = k.lib || k.bins || k.examples || k.tests || k.benches || k.all

-- whether a kind of target is asked for that has dev dependencies
abbrev pub asks_dev : TargetFlags → Bool
asks_dev k = k.examples || k.tests || k.benches || k.all
