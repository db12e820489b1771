-- On which machines a dependency passes.
use Rattle.std.specs.Prelude.{◌↔◌, ◌&&◌, ◌||◌, if◌then◌else◌, List, [], ◌∷◌, Bool, Option, IsTrue, map}
use Rattle.std.specs.Borrow.{Bor}
use Rattle.std.specs.List.{AllZip}
use Rattle.krates_cm.specs.Document.{Text}
use Rattle.krates_cm.specs.declared.dependency.DependencyKind.{DependencyKind}
use Rattle.krates_cm.specs.declared.dependency.DependencyKind.TheVariants as kinds
use Rattle.krates_units.specs.BuildSetting.{BuildSettingModel, machines}
use Rattle.krates_units.specs.Machines.{MachineModel, PassesOn, machine_view}
use Rattle.krates_units.specs.declared.machine.Machine.{Machine}
use Rattle.krates_units.specs.declared.sides.Side.{Side}
use Rattle.krates_units.specs.declared.sides.Side.TheVariants as sides
use Rattle.krates_build_tables.specs.declared.machines.Passing.{Passing}

-- the machines that are borrowed
abbrev pub lent_machines : List (Bor Machine) → List MachineModel
lent_machines all = map (λ m. machine_view m.now) all

-- whether a dependency passes on the machine
abbrev pub IsJudged : Option Text → MachineModel → Bool → Type 0
IsJudged cfg m passes = IsTrue passes ↔ PassesOn (m ∷ []) cfg

-- whether it passes on each
abbrev pub AreJudged : List MachineModel → Option Text → List Bool → Type 0
AreJudged ms cfg passes = AllZip (IsJudged cfg) ms passes

-- the answers are those of a dependency with this target text
pub record IsPassing (s : BuildSettingModel) (ms : List MachineModel) (cfg : Option Text) (x : Passing) : Type 0 where
  pub host : IsTrue x.on_host ↔ PassesOn (s.host ∷ []) cfg
  pub targets : IsTrue x.on_targets ↔ PassesOn (machines s.host s.targets) cfg
  pub each : AreJudged ms cfg x.on_each.items

-- ---- sides

-- whether a dependency of this kind passes on the machines of a side
abbrev pub passes_for : Side → DependencyKind → Passing → Bool
passes_for sides.Host kind x = x.on_host
passes_for sides.Targets kinds.Build x = x.on_host
passes_for sides.Targets kinds.Normal x = x.on_targets
passes_for sides.Targets kinds.Development x = x.on_targets

-- the side of what is for a build script or not, and a procedural macro or not, by a later resolver or the first
abbrev pub side_for : (later build is_macro : Bool) → Side
side_for later build is_macro = if later && (build || is_macro) then sides.Host else sides.Targets
