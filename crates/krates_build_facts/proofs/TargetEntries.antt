-- What the tables say of targets and of units, by place.
use Rattle.std.proofs.Common.{◌≡◌, ℕ, List, Some, refl, sym, ap, ap₂, ◌∙◌, subst, slice_get}
use Rattle.std.proofs.lemmas.Option.{same_Some}
use Rattle.krates_cm.specs.Document.{TargetModel, target_view}
use Rattle.krates_rules.specs.Facts.{Id}
use Rattle.krates_rules.specs.Resolved.{Resolved}
use Rattle.krates_units.specs.BuildFacts.{CompiledUnit, Placement}
use Rattle.krates_units.specs.BuildRules.{unit}
use Rattle.krates_units.specs.BuildSetting.{BuildSettingModel}
use Rattle.krates_units.specs.BuildTargets.{HasTarget}
use Rattle.krates_units.specs.Machines.{MachineModel}
use Rattle.krates_units.specs.declared.kinds.Mode.{Mode}
use Rattle.krates_build_tables.specs.TablesOf.{AreTables, TargetSays}
use Rattle.krates_build_tables.specs.declared.tables.CrateEntry.{CrateEntry}
use Rattle.krates_build_tables.specs.declared.tables.Tables.{Tables}
use Rattle.krates_build_tables.specs.declared.tables.TargetEntry.{TargetEntry}
use Rattle.krates_build_tables.specs.declared.tables.TargetPlace.{TargetPlace}
use Rattle.krates_build_facts.specs.Meanings.{EntryAt, PlacementMeans, UnitMeans}
use Rattle.krates_build_facts.specs.declared.facts.PlacementNumber.{PlacementNumber}
use Rattle.krates_build_facts.specs.declared.facts.UnitPlace.{UnitPlace}
use Rattle.krates_build_facts.proofs.Placements.{placement_once}
use Rattle.krates_build_facts.proofs.RowLists.{there}
use Rattle.krates_build_facts.proofs.TableEntries.{CrateHere, crate_here}

-- ---- what there is

-- the target with its entry, by place
pub record TargetHere (r : Resolved) (s : BuildSettingModel) (e : CrateEntry) (place : TargetPlace) (i : Id) (x : TargetEntry)
    (m : TargetModel) : Type 0 where
  pub at : slice_get e.targets.items place.index ≡ Some x
  pub has : HasTarget r i m
  pub says : TargetSays s x m
  pub place_is : x.place ≡ place

-- the unit with its entries, by place
pub record UnitHere (r : Resolved) (s : BuildSettingModel) (ids : List Id) (ms : List MachineModel) (t : Tables) (place : UnitPlace)
    (u : CompiledUnit) (e : CrateEntry) (x : TargetEntry) : Type 0 where
  pub crate : CrateHere r s ids ms t place.target.krate u.krate e
  pub target : TargetHere r s e place.target u.krate x u.target
  pub mode : place.mode ≡ u.mode
  pub placement : PlacementMeans ms place.placement u.placement

module _ (r : Resolved) (s : BuildSettingModel) (ids : List Id) (ms : List MachineModel) (t : Tables)
    (tables : AreTables r s ids ms t) where
  -- ---- targets

  -- a target by its place
  pub target_of : (c k : ℕ) (i : Id) (e : CrateEntry) (x : TargetEntry) → CrateHere r s ids ms t c i e
      → slice_get e.targets.items k ≡ Some x
      → (m : TargetModel) × TargetHere r s e (record { krate = c; index = k }) i x m
  target_of c k i e x crate at =
      let it = crate.says.targets.each k x at in
      (it.0, record { at = at; has = it.1; says = it.2; place_is = crate.says.targets.places k x at })

  -- the place of a target
  pub target_at : (c : ℕ) (i : Id) (e : CrateEntry) (m : TargetModel) → CrateHere r s ids ms t c i e → HasTarget r i m
      → (k : ℕ) × (x : TargetEntry) × TargetHere r s e (record { krate = c; index = k }) i x m
  target_at c i e m crate has =
      let it = crate.says.targets.all m has in
      (it.0, it.1, record { at = it.2; has = has; says = it.3; place_is = crate.says.targets.places it.0 it.1 it.2 })

  -- the target at a place is the one that the entry is of
  target_same : (c : ℕ) (place : TargetPlace) (i : Id) (e : CrateEntry) (x : TargetEntry) (m : TargetModel) → place.krate ≡ c
      → CrateHere r s ids ms t c i e → slice_get e.targets.items place.index ≡ Some x
      → target_view x.target.now ≡ m → TargetHere r s e place i x m
  target_same c place i e x m number crate at is =
      let it = crate.says.targets.each place.index x at in
      let same : it.0 ≡ m = sym it.2.target ∙ is in
      record {
        at = at;
        has = subst (HasTarget r i) same it.1;
        says = subst (TargetSays s x) same it.2;
        place_is = crate.says.targets.places place.index x at ∙ ap (λ k.
            (let p : TargetPlace = record { krate = k; index = place.index } in p)) (sym number);
      }

  -- ---- units

  pub unit_here : (place : UnitPlace) (u : CompiledUnit) → UnitMeans ids ms t place u
      → (e : CrateEntry) × (x : TargetEntry) × UnitHere r s ids ms t place u e x
  unit_here place u is =
      let crate = crate_here r s ids ms t tables place.target.krate u.krate is.entry is.entry_at.crate_at is.entry_at.at in (
        is.entry,
        is.target,
        record {
          crate = crate;
          target = target_same place.target.krate place.target u.krate is.entry is.target u.target refl crate is.at is.target_is;
          mode = is.mode;
          placement = is.placement;
        },
      )

  -- the entries of a unit are those at its place
  pub unit_at : (place : UnitPlace) (u : CompiledUnit) (e : CrateEntry) (x : TargetEntry) → UnitMeans ids ms t place u
      → slice_get t.crates.items place.target.krate ≡ Some e → slice_get e.targets.items place.target.index ≡ Some x
      → UnitHere r s ids ms t place u e x
  unit_at place u e x is at there =
      let found = unit_here place u is in
      let same : found.0 ≡ e = same_Some found.0 e (sym found.2.crate.at ∙ at) in
      let target : found.1 ≡ x = same_Some found.1 x (sym
      (subst (λ e. slice_get e.targets.items place.target.index ≡ Some found.1) same found.2.target.at) ∙ there) in
      subst (λ x. UnitHere r s ids ms t place u e x) target (subst (λ e. UnitHere r s ids ms t place u e found.1) same found.2)

  -- the unit of a target as itself, for what is placed so
  pub unit_means_there : (c : ℕ) (place : TargetPlace) (i : Id) (e : CrateEntry) (x : TargetEntry) (m : TargetModel) (mode : Mode)
      (n : PlacementNumber) (p : Placement) → place.krate ≡ c → CrateHere r s ids ms t c i e
      → TargetHere r s e place i x m → PlacementMeans ms n p
      → UnitMeans ids ms t (record { target = x.place; mode = mode; placement = n }) (unit i m mode p)
  unit_means_there c place i e x m mode n p number crate target placed =
      let to = λ (w : TargetPlace). UnitMeans ids ms t (record { target = w; mode = mode; placement = n }) (unit i m mode p) in
      let entry : EntryAt ids t place.krate i e =
      subst (λ k. EntryAt ids t k i e) (sym number) (record { crate_at = crate.crate_at; at = crate.at }) in
      subst to (sym target.place_is) (record {
        entry = e;
        entry_at = entry;
        target = x;
        at = target.at;
        target_is = target.says.target;
        mode = refl;
        placement = placed;
      })

  -- two places of one unit at a target are the same
  pub unit_same : (place : UnitPlace) (x : TargetEntry) (mode : Mode) (n : PlacementNumber) (p : Placement) → x.place ≡ place.target
      → place.mode ≡ mode → PlacementMeans ms place.placement p → PlacementMeans ms n p
      → (let w : UnitPlace = record { target = x.place; mode = mode; placement = n } in w) ≡ place
  unit_same place x mode n p target same a b =
      let placement = placement_once ms n place.placement p tables.machines_once b a in
      let first : (let w : UnitPlace = record { target = x.place; mode = mode; placement = n } in w) ≡ record {
        target = place.target;
        mode = mode;
        placement = n;
      } =
      ap (λ target. (let w : UnitPlace = record { target = target; mode = mode; placement = n } in w)) target in
      let second : (let w : UnitPlace = record { target = place.target; mode = mode; placement = n } in w) ≡ place =
      ap₂ (λ mode n. (let w : UnitPlace = record { target = place.target; mode = mode; placement = n } in w)) (sym same) placement in
      first ∙ second
