-- What is built by number is what cargo builds.
use Rattle.std.proofs.Common.{◌≡◌, ◌↔◌, ℕ, List, Contains, refl, sym, ◌∙◌, subst}
use Rattle.krates_rules.specs.Facts.{Id}
use Rattle.krates_rules.specs.Resolved.{Resolved}
use Rattle.krates_units.specs.BuildFacts.{CompiledUnit, Platform, host}
use Rattle.krates_units.specs.BuildFacts as means
use Rattle.krates_units.specs.BuildSetting.{BuildSettingModel}
use Rattle.krates_units.specs.Built.{IsBuilt, IsCompiled, IsDerivable, as_script, as_unit}
use Rattle.krates_units.specs.Machines.{MachineModel}
use Rattle.krates_units.specs.declared.sides.Side.{Side}
use Rattle.krates_build_tables.specs.TablesOf.{AreTables, CrateAt}
use Rattle.krates_build_tables.specs.declared.tables.Tables.{Tables}
use Rattle.krates_build_facts.specs.FactModels.{FactModel, Compiled, ScriptCompiled}
use Rattle.krates_build_facts.specs.Meanings.{EachHasMeaning, EachHasNumber, Follows, FollowsAsDerivable, Means, PlacementMeans, PlatformMeans, UnitMeans}
use Rattle.krates_build_facts.specs.declared.facts.PlatformNumber.{PlatformNumber}
use Rattle.krates_build_facts.specs.declared.facts.PlatformNumber.TheVariants as platforms
use Rattle.krates_build_facts.specs.declared.facts.UnitPlace.{UnitPlace}
use Rattle.krates_build_facts.proofs.FactNumbers.{of_number}
use Rattle.krates_build_facts.proofs.UniqueMeanings.{one_id}
use Rattle.krates_built.specs.BuildLists.{script_fact}
use Rattle.krates_built.specs.declared.places.ScriptPlace.{ScriptPlace}
use Rattle.krates_build_answers.specs.BuiltCrates.{AreBuiltIn, IsBuiltAt, of_script, of_unit}
use Rattle.krates_build_answers.specs.BuiltCrates as by_number
use Rattle.krates_build_answers.specs.BuiltMeanings.{AreBuilt, BuiltAtIsBuilt, BuiltCratesAreBuilt, BuiltMeans}
use Rattle.krates_build_answers.specs.declared.built_crates.BuiltCrate.{BuiltCrate}

-- the crate with this number, for this platform
abbrev crate_at : ℕ → PlatformNumber → BuiltCrate
crate_at c k = record { krate = c; platform = k }

same_crate : (c d : ℕ) (k : PlatformNumber) → c ≡ d → crate_at c k ≡ crate_at d k
same_crate c d k e = λ x. record { krate = e x; platform = k }

module _ (exact : FollowsAsDerivable) (sound : EachHasMeaning) (complete : EachHasNumber) (r : Resolved) (s : BuildSettingModel) (ids : List Id)
    (ms : List MachineModel) (t : Tables) (tables : AreTables r s ids ms t) where
  -- a number means a platform
  one_of : (n : PlatformNumber) (k l : Platform) → PlatformMeans ms n k → PlatformMeans ms n l → k ≡ l
  one_of platforms.Host k l h g = h ∙ sym g
  one_of (platforms.Machine number) k l (m, at, is) (n, bt, js) = cc

  -- ---- what is built by number is built

  -- a unit for the platform and the crate
  unit_is_built : (u : CompiledUnit) (i : Id) (k : Platform) → u.krate ≡ i → u.placement.platform ≡ k → IsDerivable r s (means.Compiled u) → IsBuilt r s i k
  unit_is_built u i k same at d = (u.placement.side, subst (λ (l : Platform). IsCompiled r s i l u.placement.side) at (as_unit u same d))

  pub is_built : (x : BuiltCrate) (i : Id) (k : Platform) → BuiltMeans ids ms x i k → IsBuiltAt t x → IsBuilt r s i k
  is_built x i k m (by_number.as_unit place follows is) =
      let w = sound r s ids ms t tables (Compiled place) follows in
      let u = w.1.0 in
      let h = w.1.1 in
      let here = subst (λ (y : BuiltCrate). CrateAt ids y.krate u.krate) is h.entry_at.crate_at in
      let there = subst (λ (y : BuiltCrate). PlatformMeans ms y.platform u.placement.platform) is h.placement.platform in
      unit_is_built u i k (one_id ids x.krate u.krate i here m.crate_at) (one_of x.platform u.placement.platform k there m.platform)
      (subst (IsDerivable r s) w.1.2 w.2)
  is_built x i k m (by_number.as_script place follows is) =
      let here = subst (λ (y : BuiltCrate). CrateAt ids y.krate i) (sym is) m.crate_at in
      let there = subst (λ (y : BuiltCrate). PlatformMeans ms y.platform k) (sym is) m.platform in
      let d = (exact r s ids ms t tables (script_fact place) (means.ScriptCompiled i place.side) (i, here, refl)).0 follows in
      (place.side, subst (λ (l : Platform). IsCompiled r s i l place.side) (sym there) (as_script d))

  -- ---- what is built has numbers

  -- the unit, by another number of its crate and its platform
  other_unit : (place : UnitPlace) (u : CompiledUnit) → UnitMeans ids ms t place u → (x : BuiltCrate) → BuiltMeans ids ms x u.krate u.placement.platform
      → IsDerivable r s (means.Compiled u) → IsBuiltAt t x
  other_unit place u h x m d =
      let other : UnitPlace = record { target = place.target; mode = place.mode; placement = record { platform = x.platform; side = place.placement.side } } in
      let is : UnitMeans ids ms t other u = record {
        entry = h.entry;
        entry_at = h.entry_at;
        target = h.target;
        at = h.at;
        target_is = h.target_is;
        mode = h.mode;
        placement = record { platform = m.platform; side = h.placement.side };
      } in
      let same : place.target.krate ≡ x.krate = tables.ids_once place.target.krate x.krate u.krate h.entry_at.crate_at m.crate_at in
      by_number.as_unit other ((exact r s ids ms t tables (Compiled other) (means.Compiled u) (u, is, refl)).1 d) (same_crate place.target.krate x.krate x.platform same)

  -- the place of a unit that is compiled
  pub unit_place : (u : CompiledUnit) → IsDerivable r s (means.Compiled u) → (place : UnitPlace) × UnitMeans ids ms t place u
  unit_place u d =
      let w = complete r s ids ms t tables (means.Compiled u) d in
      of_number r s ids ms t (λ (n : FactModel). (place : UnitPlace) × UnitMeans ids ms t place u) (means.Compiled u) (λ place is. (place, is)) w.0 w.1

  script_at : (x : BuiltCrate) (i : Id) (n : Side) → CrateAt ids x.krate i → (platform : PlatformNumber) → x.platform ≡ platform → PlatformMeans ms platform host
      → IsDerivable r s (means.ScriptCompiled i n) → IsBuiltAt t x
  script_at x i n at platforms.Host is m d =
      let place : ScriptPlace = record { krate = x.krate; side = n } in
      by_number.as_script place ((exact r s ids ms t tables (script_fact place) (means.ScriptCompiled i n) (i, at, refl)).1 d)
      (λ z. record { krate = x.krate; platform = sym is z })
  script_at x i n at (platforms.Machine number) is (m, here, same) d = absurd cc

  pub at_number : (x : BuiltCrate) (i : Id) (k : Platform) (n : Side) → BuiltMeans ids ms x i k → IsCompiled r s i k n → IsBuiltAt t x
  at_number x i k n m (as_unit u same d) =
      let w = unit_place u d in
      other_unit w.0 u w.1 x (subst (λ (j : Id). BuiltMeans ids ms x j u.placement.platform) (sym same) m) d
  at_number x i k n m (as_script d) = script_at x i n m.crate_at x.platform refl m.platform d

  pub built_at : (x : BuiltCrate) (i : Id) (k : Platform) → BuiltMeans ids ms x i k → IsBuiltAt t x ↔ IsBuilt r s i k
  built_at x i k m = (is_built x i k m, λ h. at_number x i k h.0 m h.1)

  -- ---- lists

  pub meaning_of : (x : BuiltCrate) → IsBuiltAt t x → (i : Id) × (k : Platform) × BuiltMeans ids ms x i k
  meaning_of x (by_number.as_unit place follows is) =
      let w = sound r s ids ms t tables (Compiled place) follows in
      let u = w.1.0 in
      let h = w.1.1 in
      let here : BuiltMeans ids ms (of_unit place) u.krate u.placement.platform = record { crate_at = h.entry_at.crate_at; platform = h.placement.platform } in
      (u.krate, u.placement.platform, subst (λ (y : BuiltCrate). BuiltMeans ids ms y u.krate u.placement.platform) is here)
  meaning_of x (by_number.as_script place follows is) =
      let w = sound r s ids ms t tables (script_fact place) follows in
      let i = w.1.0 in
      let here : BuiltMeans ids ms (of_script place) i host = record { crate_at = w.1.1; platform = refl } in
      (i, host, subst (λ (y : BuiltCrate). BuiltMeans ids ms y i host) is here)

  pub number_of : (i : Id) (k : Platform) (n : Side) → IsCompiled r s i k n → (x : BuiltCrate) × BuiltMeans ids ms x i k
  number_of i k n (as_unit u same d) =
      let w = unit_place u d in (
        of_unit w.0,
        record { crate_at = subst (CrateAt ids w.0.target.krate) same w.1.entry_at.crate_at; platform = w.1.placement.platform },
      )
  number_of i k n (as_script d) =
      let w = complete r s ids ms t tables (means.ScriptCompiled i n) d in
      let c = of_number r s ids ms t (λ (f : FactModel). (c : ℕ) × CrateAt ids c i) (means.ScriptCompiled i n) (λ c at. (c, at)) w.0 w.1 in
      (crate_at c.0 platforms.Host, record { crate_at = c.1; platform = refl })

  pub are_built : (built : List BuiltCrate) → AreBuiltIn t built → AreBuilt r s ids ms built
  are_built built whole = record {
    each = λ x c. (
        let at = (whole x).0 c in
        let w = meaning_of x at in
        (w.0, w.1, w.2, is_built x w.0 w.1 w.2 at));
    all = λ i k h. (
        let w = number_of i k h.0 h.1 in
        (w.0, (whole w.0).1 (at_number w.0 i k h.0 w.1 h.1), w.1));
  }
