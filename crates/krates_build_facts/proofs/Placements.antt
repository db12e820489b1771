-- Platforms and placements by number, and where a target goes.
use Rattle.std.proofs.Common.{◌≡◌, Bool, true, false, List, Some, refl, sym, ap, ap₂, ◌∙◌}
use Rattle.krates_cm.specs.Document.{TargetModel}
use Rattle.krates_units.specs.BuildFacts.{Platform, Placement}
use Rattle.krates_units.specs.BuildSetting.{BuildSettingModel}
use Rattle.krates_units.specs.Machines.{MachineModel}
use Rattle.krates_units.specs.Sides.{host_placement, GoesTo, to_host, along}
use Rattle.krates_units.specs.declared.sides.Side.{Side}
use Rattle.krates_build_tables.specs.TablesOf.{HasEachOnce, TargetSays}
use Rattle.krates_build_tables.specs.declared.tables.TargetEntry.{TargetEntry}
use Rattle.krates_build_facts.specs.Meanings.{PlacementMeans, PlatformMeans}
use Rattle.krates_build_facts.specs.Rows.{goes_to, host_place}
use Rattle.krates_build_facts.specs.declared.facts.PlacementNumber.{PlacementNumber}
use Rattle.krates_build_facts.specs.declared.facts.PlatformNumber.{PlatformNumber}
use Rattle.krates_build_facts.specs.declared.facts.PlatformNumber.TheVariants as platforms

-- ---- at most one number

pub platform_once : (ms : List MachineModel) (a b : PlatformNumber) (k : Platform) → HasEachOnce ms → PlatformMeans ms a k
    → PlatformMeans ms b k → a ≡ b
platform_once ms platforms.Host platforms.Host k once x y = refl
platform_once ms platforms.Host (platforms.Machine n) k once x (m, at, y) = absurd cc
platform_once ms (platforms.Machine n) platforms.Host k once (m, at, x) y = absurd cc
platform_once ms (platforms.Machine j) (platforms.Machine n) k once (m, at, x) (m', at', y) =
    let same : m' ≡ m = cc in
    ap (λ n. platforms.Machine n) (once j n m at (at' ∙ ap (λ m. Some m) same))

pub placement_once : (ms : List MachineModel) (a b : PlacementNumber) (p : Placement) → HasEachOnce ms → PlacementMeans ms a p
    → PlacementMeans ms b p → a ≡ b
placement_once ms a b p once x y =
    let platform = platform_once ms a.platform b.platform p.platform once x.platform y.platform in
    let e : a ≡ record { platform = b.platform; side = b.side } =
    ap₂ (λ (p : PlatformNumber) (n : Side). (let at : PlacementNumber = record { platform = p; side = n } in at)) platform
    (x.side ∙ sym y.side) in
    e

-- ---- where a target goes

pub at_host : (ms : List MachineModel) → PlacementMeans ms host_place host_placement
at_host ms = record { platform = refl; side = refl }

-- where it goes
pub goes_somewhere : (s : BuildSettingModel) (ms : List MachineModel) (x : TargetEntry) (t : TargetModel) (n : PlacementNumber)
    (p : Placement) (b : Bool) → x.is_macro ≡ b → TargetSays s x t → PlacementMeans ms n p
    → (at : Placement) × GoesTo t p at × PlacementMeans ms (goes_to x n) at
goes_somewhere s ms x t n p true is says placed = (host_placement, to_host (says.is_macro.0 is), rw is (at_host ms))
goes_somewhere s ms x t n p false is says placed = (p, along (λ m. absurd (let yes = says.is_macro.1 m in cc)), rw is placed)

-- the number of where it goes
pub goes_number : (s : BuildSettingModel) (ms : List MachineModel) (x : TargetEntry) (t : TargetModel) (n : PlacementNumber)
    (p at : Placement) (b : Bool) → x.is_macro ≡ b → TargetSays s x t → PlacementMeans ms n p
    → GoesTo t p at → PlacementMeans ms (goes_to x n) at
goes_number s ms x t n p at true is says placed (to_host m) = rw is (at_host ms)
goes_number s ms x t n p at true is says placed (along other) = absurd (other (says.is_macro.0 is))
goes_number s ms x t n p at false is says placed (to_host m) = absurd (let yes = says.is_macro.1 m in cc)
goes_number s ms x t n p at false is says placed (along other) = rw is placed
