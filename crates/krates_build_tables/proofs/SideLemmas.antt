-- Lemmas of the two sides.
use Rattle.std.proofs.Common.{◌≡◌, ◌↔◌, ◌⊎◌, ◌&&◌, ◌||◌, List, Bool, true, false, not, IsTrue, refl, sym, subst, inl, inr}
use Rattle.std.proofs.lemmas.Bool.{and_from, and_parts}
use Rattle.krates_cm.specs.declared.dependency.DependencyKind.{DependencyKind}
use Rattle.krates_cm.specs.declared.dependency.DependencyKind.TheVariants as kinds
use Rattle.krates_rules.specs.Facts.{Id, Edge}
use Rattle.krates_rules.specs.Resolved.{Resolved}
use Rattle.krates_units.specs.BuildSetting.{BuildSettingModel, IsFirst, IsLater, asks_dev}
use Rattle.krates_units.specs.BuildTargets.{HasMacro, IsMacroCrate}
use Rattle.krates_units.specs.Machines.{MachineModel, PassesOn}
use Rattle.krates_units.specs.Requests.{IsBuildRoot}
use Rattle.krates_units.specs.Sides.{Counts, Leads, LooksOn, StartsOn, machines_of}
use Rattle.krates_units.specs.Sides as rows
use Rattle.krates_units.specs.declared.setting.Resolver.{Resolver}
use Rattle.krates_units.specs.declared.setting.Resolver.TheVariants.{V1, V2, V3}
use Rattle.krates_units.specs.declared.sides.Side.{Side}
use Rattle.krates_units.specs.declared.sides.Side.TheVariants as sides
use Rattle.krates_build_tables.specs.Judgements.{IsPassing, passes_for, side_for}
use Rattle.krates_build_tables.specs.declared.machines.Passing.{Passing}

host_has : (r : Resolved) (s : BuildSettingModel) (i : Id) → StartsOn r s i sides.Host → IsLater s.resolver × HasMacro r i
host_has r s i (rows.on_host later has) = (later, has)

pub host_start : (r : Resolved) (s : BuildSettingModel) (i : Id) (b : Bool) → IsLater s.resolver → (IsTrue b ↔ HasMacro r i) → IsTrue b ↔ StartsOn r s i sides.Host
host_start r s i b later tells = (λ t. rows.on_host later (tells.0 t), λ h. tells.1 (host_has r s i h).1)

pub no_host_start : (r : Resolved) (s : BuildSettingModel) (i : Id) → (IsLater s.resolver → ⊥) → StartsOn r s i sides.Host → ⊥
no_host_start r s i first h = first (host_has r s i h).0

-- ---- resolvers

-- a resolver that isn't a later one is the first
pub first_told : (v : Resolver) → (IsLater v → ⊥) → IsFirst v
first_told V1 h = tt
first_told V2 h = h tt
first_told V3 h = h tt

pub not_both : (v : Resolver) → IsFirst v → IsLater v → ⊥
not_both V1 first later = later
not_both V2 first later = first
not_both V3 first later = first

-- ---- where a dependency leads

leads_here : (r : Resolved) (s : BuildSettingModel) (e : Edge) (later build is_macro : Bool) → (IsTrue later ↔ IsLater s.resolver) → (IsTrue build ↔ (e.kind ≡ kinds.Build)) → (IsTrue is_macro ↔ IsMacroCrate r e.child)
    → Leads r s sides.Targets e (side_for later build is_macro)
leads_here r s e false build is_macro l b m = rows.as_one (first_told s.resolver (λ h. let t = l.1 h in cc))
leads_here r s e true true is_macro l b m = rows.to_host (l.0 refl) (inr (inl (b.0 refl)))
leads_here r s e true false true l b m = rows.to_host (l.0 refl) (inr (inr (m.0 refl)))
leads_here r s e true false false l b m = rows.to_targets (l.0 refl) refl (λ h. let t = b.1 h in cc) (λ h. let t = m.1 h in cc)

leads_from : (r : Resolved) (s : BuildSettingModel) (e : Edge) (side : Side) (later build is_macro : Bool) → (IsTrue later ↔ IsLater s.resolver) → (IsTrue build ↔ (e.kind ≡ kinds.Build))
    → (IsTrue is_macro ↔ IsMacroCrate r e.child) → Leads r s sides.Targets e side → side ≡ side_for later build is_macro
leads_from r s e side false build is_macro l b m (rows.as_one first) = refl
leads_from r s e side false build is_macro l b m (rows.to_host after h) = absurd (let t = l.1 after in cc)
leads_from r s e side false build is_macro l b m (rows.to_targets after same x y) = refl
leads_from r s e side true build is_macro l b m (rows.as_one first) = absurd (not_both s.resolver first (l.0 refl))
leads_from r s e side true true is_macro l b m (rows.to_host after h) = refl
leads_from r s e side true false true l b m (rows.to_host after h) = refl
leads_from r s e side true false false l b m (rows.to_host after (inl e')) = absurd cc
leads_from r s e side true false false l b m (rows.to_host after (inr (inl x))) = absurd (let t = b.1 x in cc)
leads_from r s e side true false false l b m (rows.to_host after (inr (inr x))) = absurd (let t = m.1 x in cc)
leads_from r s e side true true is_macro l b m (rows.to_targets after same x y) = absurd (x (b.0 refl))
leads_from r s e side true false true l b m (rows.to_targets after same x y) = absurd (y (m.0 refl))
leads_from r s e side true false false l b m (rows.to_targets after same x y) = refl

pub leads_told : (r : Resolved) (s : BuildSettingModel) (e : Edge) (side : Side) (later build is_macro : Bool) → (IsTrue later ↔ IsLater s.resolver) → (IsTrue build ↔ (e.kind ≡ kinds.Build))
    → (IsTrue is_macro ↔ IsMacroCrate r e.child) → Leads r s sides.Targets e side ↔ (side ≡ side_for later build is_macro)
leads_told r s e side later build is_macro l b m = (leads_from r s e side later build is_macro l b m, λ h. subst (Leads r s sides.Targets e) (sym h) (leads_here r s e later build is_macro l b m))

-- ---- where a target looks

looks_here : (r : Resolved) (s : BuildSettingModel) (e : Edge) (later build is_macro : Bool) → (IsTrue later ↔ IsLater s.resolver) → (IsTrue build ↔ (e.kind ≡ kinds.Build)) → (IsTrue is_macro ↔ HasMacro r e.child)
    → LooksOn r s e (side_for later build is_macro)
looks_here r s e false build is_macro l b m = rows.as_one (first_told s.resolver (λ h. let t = l.1 h in cc))
looks_here r s e true true is_macro l b m = rows.on_host (l.0 refl) (inl (b.0 refl))
looks_here r s e true false true l b m = rows.on_host (l.0 refl) (inr (m.0 refl))
looks_here r s e true false false l b m = rows.on_targets (l.0 refl) (λ h. let t = b.1 h in cc) (λ h. let t = m.1 h in cc)

looks_from : (r : Resolved) (s : BuildSettingModel) (e : Edge) (side : Side) (later build is_macro : Bool) → (IsTrue later ↔ IsLater s.resolver) → (IsTrue build ↔ (e.kind ≡ kinds.Build))
    → (IsTrue is_macro ↔ HasMacro r e.child) → LooksOn r s e side → side ≡ side_for later build is_macro
looks_from r s e side false build is_macro l b m (rows.as_one first) = refl
looks_from r s e side false build is_macro l b m (rows.on_host after h) = absurd (let t = l.1 after in cc)
looks_from r s e side false build is_macro l b m (rows.on_targets after x y) = refl
looks_from r s e side true build is_macro l b m (rows.as_one first) = absurd (not_both s.resolver first (l.0 refl))
looks_from r s e side true true is_macro l b m (rows.on_host after h) = refl
looks_from r s e side true false true l b m (rows.on_host after h) = refl
looks_from r s e side true false false l b m (rows.on_host after (inl x)) = absurd (let t = b.1 x in cc)
looks_from r s e side true false false l b m (rows.on_host after (inr x)) = absurd (let t = m.1 x in cc)
looks_from r s e side true true is_macro l b m (rows.on_targets after x y) = absurd (x (b.0 refl))
looks_from r s e side true false true l b m (rows.on_targets after x y) = absurd (y (m.0 refl))
looks_from r s e side true false false l b m (rows.on_targets after x y) = refl

pub looks_told : (r : Resolved) (s : BuildSettingModel) (e : Edge) (side : Side) (later build is_macro : Bool) → (IsTrue later ↔ IsLater s.resolver) → (IsTrue build ↔ (e.kind ≡ kinds.Build))
    → (IsTrue is_macro ↔ HasMacro r e.child) → LooksOn r s e side ↔ (side ≡ side_for later build is_macro)
looks_told r s e side later build is_macro l b m = (looks_from r s e side later build is_macro l b m, λ h. subst (LooksOn r s e) (sym h) (looks_here r s e later build is_macro l b m))

-- ---- whether it counts

-- whether it passes on the machines of a side
passes_told : (s : BuildSettingModel) (ms : List MachineModel) (e : Edge) (x : Passing) (side : Side) (kind : DependencyKind) → IsPassing s ms e.cfg x → IsTrue (passes_for side kind x) ↔ PassesOn (machines_of s side kind) e.cfg
passes_told s ms e x sides.Host kind h = h.host
passes_told s ms e x sides.Targets kinds.Build h = h.host
passes_told s ms e x sides.Targets kinds.Normal h = h.targets
passes_told s ms e x sides.Targets kinds.Development h = h.targets

-- where a later resolver asks for it, something holds
asked : (later passes : Bool) (L P : Type 0) → (IsTrue later ↔ L) → (IsTrue passes ↔ P) → IsTrue (not later || passes) ↔ (L → P)
asked false passes L P l p = (λ t h. absurd (let n = l.1 h in cc), λ h. refl)
asked true true L P l p = (λ t h. p.0 refl, λ h. refl)
asked true false L P l p = (λ t h. p.0 t, λ h. p.1 (h (l.0 refl)))

pub counts_told : (r : Resolved) (s : BuildSettingModel) (side : Side) (e : Edge) (ms : List MachineModel) (x : Passing) (root takes later : Bool) → (IsTrue root ↔ IsBuildRoot r s e.parent)
    → (IsTrue takes ↔ (e.kind ≡ kinds.Development → IsTrue root × (IsFirst s.resolver ⊎ (asks_dev s.kinds ≡ true)))) → (IsTrue later ↔ IsLater s.resolver) → IsPassing s ms e.cfg x
    → IsTrue (takes && (not later || passes_for side e.kind x)) ↔ Counts r s side e
counts_told r s side e ms x root takes later is_root part l passing =
    let passes = asked later (passes_for side e.kind x) (IsLater s.resolver) (PassesOn (machines_of s side e.kind) e.cfg) l (passes_told s ms e x side e.kind passing) in (
      λ t. (
          let both = and_parts takes (not later || passes_for side e.kind x) t in
          record { of_root = λ dev. (let w = part.0 both.0 dev in (is_root.0 w.0, w.1)); passes = passes.0 both.1 }),
      λ h. and_from takes (not later || passes_for side e.kind x) (part.1 (λ dev. let w = h.of_root dev in (is_root.1 w.0, w.1))) (passes.1 h.passes),
    )

pub first_test : (v : Resolver) (b : Bool) → (IsTrue b ↔ IsLater v) → IsTrue (not b) ↔ IsFirst v
first_test v true l = (λ t. absurd cc, λ h. absurd (not_both v h (l.0 refl)))
first_test v false l = (λ t. first_told v (λ h. let y = l.1 h in cc), λ h. refl)
