-- For what crates are built, and what they are used for, is what the lists say.
use Rattle.std.proofs.Common.{◌≡◌, ◌↔◌, ℕ, ◌<◌, List, Any, All, Contains, get_or, length, map, refl, sym, ap, ◌∙◌, subst}
use Rattle.std.proofs.lemmas.List.Elements.{All-contains}
use Rattle.krates_rules.specs.Facts.{Id}
use Rattle.krates_rules.specs.Resolved.{Resolved}
use Rattle.krates_rules.proofs.Members.{contains_of, mapped_of, member_map, member_of}
use Rattle.krates_units.specs.BuildFacts.{Platform, host, machine}
use Rattle.krates_units.specs.BuildSetting.{BuildSettingModel}
use Rattle.krates_units.specs.Built.{IsBuilt}
use Rattle.krates_units.specs.Machines.{MachineModel}
use Rattle.krates_build_tables.specs.TablesOf.{AreTables, CrateAt}
use Rattle.krates_build_tables.specs.declared.tables.Tables.{Tables}
use Rattle.krates_build_facts.specs.Meanings.{EachHasMeaning, EachHasNumber, FollowsAsDerivable, PlatformMeans}
use Rattle.krates_build_facts.specs.declared.facts.PlatformNumber.{PlatformNumber}
use Rattle.krates_build_facts.specs.declared.facts.PlatformNumber.TheVariants as platforms
use Rattle.krates_build_facts.proofs.UniqueMeanings.{one_id}
use Rattle.krates_build_answers.specs.BuiltCrates.{AreBuiltIn, IsAmong, IsForHost, IsForMachine, IsForTargets}
use Rattle.krates_build_answers.specs.BuiltMeanings.{BuiltMeans}
use Rattle.krates_build_answers.specs.BuiltSides.{AreUsesOf, IsBuiltAtAll, IsBuiltForTargets, IsUseOf, SidesAreTold, TellsSides, UsesAreOf}
use Rattle.krates_build_answers.specs.Uses.{AreUses, IsUse}
use Rattle.krates_build_answers.specs.declared.built_crates.BuiltCrate.{BuiltCrate}
use Rattle.krates_build_answers.specs.declared.uses.BuildUse.{BuildUse}
use Rattle.krates_build_answers.specs.declared.uses.BuildUse.TheVariants.{Shipped, Build, Tests}
use Rattle.krates_build_answers.specs.declared.uses.UsedCrate.{UsedCrate}
use Rattle.krates_build_answers.proofs.BuiltLaws.{at_number, built_at, is_built, meaning_of, number_of}
use Rattle.krates_build_answers.proofs.SomeElements.{any_has, any_of}

-- ---- one build

module _ (exact : FollowsAsDerivable) (sound : EachHasMeaning) (complete : EachHasNumber) (r : Resolved) (s : BuildSettingModel) (ids : List Id)
    (ms : List MachineModel) (t : Tables) (tables : AreTables r s ids ms t) (built : List BuiltCrate) (whole : AreBuiltIn t built) where
  -- a machine that a number means
  machine_of : (number : ℕ) (k : Platform) → PlatformMeans ms (platforms.Machine number) k → (m : MachineModel) × (k ≡ machine m)
  machine_of number k (m, at, is) = (m, is)

  -- the number of a machine
  number_is : (m : MachineModel) (p : PlatformNumber) → PlatformMeans ms p (machine m) → (number : ℕ) × (p ≡ platforms.Machine number)
  number_is m platforms.Host h = absurd cc
  number_is m (platforms.Machine number) h = (number, refl)

  -- what cargo builds that is in the list
  cargo_builds : (x : BuiltCrate) (c : ℕ) (i : Id) → Contains built x → x.krate ≡ c → CrateAt ids c i → (k : Platform) × PlatformMeans ms x.platform k × IsBuilt r s i k
  cargo_builds x c i among is at =
      let there = (whole x).0 among in
      let w = meaning_of exact sound complete r s ids ms t tables x there in
      let same : w.0 ≡ i = one_id ids c w.0 i (subst (λ (n : ℕ). CrateAt ids n w.0) is w.2.crate_at) at in
      (w.1, w.2.platform, subst (λ (j : Id). IsBuilt r s j w.1) same (is_built exact sound complete r s ids ms t tables x w.0 w.1 w.2 there))

  -- where what cargo builds is in the list
  in_list : (c : ℕ) (i : Id) → CrateAt ids c i → (k : Platform) → IsBuilt r s i k → (x : BuiltCrate) × Contains built x × (x.krate ≡ c) × PlatformMeans ms x.platform k
  in_list c i at k h =
      let w = number_of exact sound complete r s ids ms t tables i k h.0 h.1 in (
        w.0,
        (whole w.0).1 (at_number exact sound complete r s ids ms t tables w.0 i k h.0 w.1 h.1),
        tables.ids_once w.0.krate c i w.1.crate_at at,
        w.1.platform,
      )

  targets_built : (c : ℕ) (i : Id) → CrateAt ids c i → IsForTargets c built → IsBuiltForTargets r s i
  targets_built c i at a =
      let w = any_has (IsForMachine c) built a in
      let is = w.2.1 in
      let b = cargo_builds w.0 c i w.1 (ap (λ (x : BuiltCrate). x.krate) is) at in
      let m = machine_of w.2.0 b.0 (subst (λ (x : BuiltCrate). PlatformMeans ms x.platform b.0) is b.1) in
      (m.0, subst (IsBuilt r s i) m.1 b.2)

  built_targets : (c : ℕ) (i : Id) → CrateAt ids c i → IsBuiltForTargets r s i → IsForTargets c built
  built_targets c i at (m, h) =
      let w = in_list c i at (machine m) h in
      let n = number_is m w.0.platform w.3 in
      let krate = w.2 in
      let platform = n.1 in
      any_of (IsForMachine c) built w.0 w.1 (n.0, λ z. record { krate = krate z; platform = platform z })

  pub sides_told : (c : ℕ) (i : Id) → CrateAt ids c i → TellsSides r s built c i
  sides_told c i at = record {
    for_host =
        let x : BuiltCrate = record { krate = c; platform = platforms.Host } in
        let same = built_at exact sound complete r s ids ms t tables x i host (record { crate_at = at; platform = refl }) in
        (λ h. same.0 ((whole x).0 h), λ h. (whole x).1 (same.1 h));
    for_targets = (targets_built c i at, built_targets c i at);
    at_all = (
      λ a. (
          let w = any_has (λ (x : BuiltCrate). x.krate ≡ c) built a in
          let b = cargo_builds w.0 c i w.1 w.2 at in
          (b.0, b.2)),
      λ h. (
          let w = in_list c i at h.0 h.1 in
          any_of (λ (x : BuiltCrate). x.krate ≡ c) built w.0 w.1 w.2),
    );
  }

  -- the number of a crate that cargo builds
  pub crate_number : (i : Id) → IsBuiltAtAll r s i → (c : ℕ) × CrateAt ids c i
  crate_number i h =
      let w = number_of exact sound complete r s ids ms t tables i h.0 h.1.0 h.1.1 in
      (w.0.krate, w.1.crate_at)

  -- the crate of a number that is built
  pub crate_with : (c : ℕ) → IsAmong c built → (i : Id) × CrateAt ids c i
  crate_with c a =
      let w = any_has (λ (x : BuiltCrate). x.krate ≡ c) built a in
      let v = meaning_of exact sound complete r s ids ms t tables w.0 ((whole w.0).0 w.1) in
      (v.0, subst (λ (n : ℕ). CrateAt ids n v.0) w.2 v.2.crate_at)

-- ---- uses

not_at_all : (r : Resolved) (s : BuildSettingModel) (i : Id) → ¬ IsBuiltForTargets r s i → ¬ IsBuilt r s i host → ¬ IsBuiltAtAll r s i
not_at_all r s i targets alone (host, h) = alone h
not_at_all r s i targets alone (machine m, h) = targets (m, h)

use_of : (r : Resolved) (s : BuildSettingModel) (built : List BuiltCrate) (c : ℕ) (i : Id) → TellsSides r s built c i → (u : BuildUse) → IsUse built c u → IsUseOf r s i u
use_of r s built c i told Shipped h = told.for_targets.0 h
use_of r s built c i told Build h = (λ b. h.0 (told.for_targets.1 b), told.for_host.0 h.1)
use_of r s built c i told Tests h = not_at_all r s i (λ b. h.0 (told.for_targets.1 b)) (λ b. h.1 (told.for_host.1 b))

module _ (exact : FollowsAsDerivable) (sound : EachHasMeaning) (complete : EachHasNumber) where
  pub sides_are_told : SidesAreTold
  sides_are_told r s ids ms t tables built whole c i at = sides_told exact sound complete r s ids ms t tables built whole c i at

  pub uses_are_of : UsesAreOf
  uses_are_of r s all ids ms ns t u tables others as_asked with_all asked whole uses are =
      let krates = map (λ (x : UsedCrate). x.krate) uses in
      record {
        each = λ x c. (
            let among = (are.exactly x.krate).0 (contains_of krates x.krate (member_map (λ (y : UsedCrate). y.krate) uses x (member_of uses x c))) in
            let i = crate_with exact sound complete r all ids ns u others with_all whole x.krate among in
            let there = sides_told exact sound complete r all ids ns u others with_all whole x.krate i.0 i.1 in
            let here = sides_told exact sound complete r s ids ms t tables as_asked asked x.krate i.0 i.1 in (
              i.0,
              i.1,
              there.at_all.0 among,
              use_of r s as_asked x.krate i.0 here x.usage (All-contains (λ (y : UsedCrate). IsUse as_asked y.krate y.usage) uses x are.each c),
            ));
        whole = λ i h. (
            let n = crate_number exact sound complete r all ids ns u others with_all whole i h in
            let there = sides_told exact sound complete r all ids ns u others with_all whole n.0 i n.1 in
            let w = mapped_of (λ (y : UsedCrate). y.krate) uses n.0 (member_of krates n.0 ((are.exactly n.0).1 (there.at_all.1 h))) in
            (w.from, contains_of uses w.from w.member, subst (λ (c : ℕ). CrateAt ids c i) (sym w.is) n.1));
      }
