-- The rows of the runs of build scripts that others need.
use Rattle.std.proofs.Common.{◌≡◌, ℕ, true, ◌&&◌, List, Contains, Some, refl, sym, ◌∙◌, subst, inl, inr, slice_get, flat_map}
use Rattle.std.proofs.lemmas.List.Elements.{Contains-append_right}
use Rattle.krates_cm.specs.Document.{DependencyModel, TargetModel}
use Rattle.krates_cm.specs.declared.dependency.DependencyKind.{DependencyKind}
use Rattle.krates_cm.specs.declared.dependency.DependencyKind.TheVariants.{Normal, Development, Build}
use Rattle.krates_rules.specs.Facts.{Id, Edge}
use Rattle.krates_rules.specs.Resolved.{Resolved}
use Rattle.krates_units.specs.BuildFacts.{CompiledUnit, Placement}
use Rattle.krates_units.specs.BuildFacts as means
use Rattle.krates_units.specs.BuildRules.{IsLinkedFrom}
use Rattle.krates_units.specs.BuildRules as rules
use Rattle.krates_units.specs.BuildSetting.{BuildSettingModel}
use Rattle.krates_units.specs.BuildTargets.{HasTargetThat, IsScript}
use Rattle.krates_units.specs.Machines.{MachineModel}
use Rattle.krates_units.specs.Sides.{GoesTo, HasFeaturesOf}
use Rattle.krates_units.specs.declared.sides.Side.{Side}
use Rattle.krates_build_tables.specs.TablesOf.{AreTables}
use Rattle.krates_build_tables.specs.declared.tables.CrateEntry.{CrateEntry}
use Rattle.krates_build_tables.specs.declared.tables.Link.{Link}
use Rattle.krates_build_tables.specs.declared.tables.LinkPlace.{LinkPlace}
use Rattle.krates_build_tables.specs.declared.tables.Tables.{Tables}
use Rattle.krates_build_tables.specs.declared.tables.TargetEntry.{TargetEntry}
use Rattle.krates_build_facts.specs.FactModels.{Compiled, RunNeeded}
use Rattle.krates_build_facts.specs.Meanings.{Follows, LinkMeans, PlacementMeans}
use Rattle.krates_build_facts.specs.Rows.{features_side, goes_to, is_normal, libraries_of_unit, of_some, passes, rows_of, rule, run_for, runs_in, runs_of_unit}
use Rattle.krates_build_facts.specs.declared.facts.PlacementNumber.{PlacementNumber}
use Rattle.krates_build_facts.specs.declared.facts.UnitPlace.{UnitPlace}
use Rattle.krates_build_facts.proofs.Claims.{AreSound, HaveNumbers, IsCovered, IsSound}
use Rattle.krates_build_facts.proofs.CoverRows.{by_rows, in_link, linked_here, numbers, unit_number}
use Rattle.krates_build_facts.proofs.Decisions.{features_means, passes_decides}
use Rattle.krates_build_facts.proofs.Placements.{goes_number, goes_somewhere, placement_once}
use Rattle.krates_build_facts.proofs.RowLists.{in_flat_at, in_if, in_some, in_where, rows_flat, rows_if, rows_none, rows_some, rows_where}
use Rattle.krates_build_facts.proofs.SoundRows.{gives, sound_rows}
use Rattle.krates_build_facts.proofs.TableEntries.{LinkOf, crate_here, entry_of}
use Rattle.krates_build_facts.proofs.TargetEntries.{target_at, target_of}
use Rattle.krates_build_facts.proofs.Tests.{both_parts, both_true}
use Rattle.krates_build_facts.proofs.UniqueMeanings.{one_id}
use Rattle.krates_build_facts.proofs.UnitLibraryRows.{by_unit, unit_premises, unit_uses, uses_follow, uses_meant}
use Rattle.krates_rules.proofs.OnlyOne.{place_in}

normal_kind : (kind : DependencyKind) → is_normal kind ≡ true → kind ≡ Normal
normal_kind Normal is = refl
normal_kind Development is = absurd cc
normal_kind Build is = absurd cc

kind_is_normal : (kind : DependencyKind) → kind ≡ Normal → is_normal kind ≡ true
kind_is_normal kind is = rw is refl

module _ (r : Resolved) (s : BuildSettingModel) (ids : List Id) (ms : List MachineModel) (t : Tables)
    (tables : AreTables r s ids ms t) where
  -- ---- the rows are rules

  one_sound : (u : UnitPlace) (p : CrateEntry) (l : Link) (e : Edge) (d : DependencyModel) (child : CrateEntry) (j : ℕ) (y : TargetEntry)
      → slice_get t.crates.items u.target.krate ≡ Some p → LinkOf r s ids ms t u.target.krate l e d
      → p.has_script ≡ true → is_normal l.kind ≡ true → passes l u.placement.platform ≡ true
      → slice_get t.crates.items l.child ≡ Some child → child.links_natively ≡ true → child.has_script ≡ true
      → slice_get child.targets.items j ≡ Some y → y.is_linkable ≡ true
      → IsSound r s ids ms t (unit_uses t u l) (RunNeeded l.place u.placement (goes_to y u.placement))
  one_sound u p l e d child j y entry link script kind passes_there child_entry natively child_script at is =
      let n = features_side t u.placement.side in
      let fact = RunNeeded l.place u.placement (goes_to y u.placement) in
      by_unit r s ids ms t tables u l fact (λ one means_it.
      let platform = one.placement.platform in
      let placed = means_it.placement in
      let crate = crate_here r s ids ms t tables u.target.krate one.krate p means_it.entry_at.crate_at entry in
      let parent : e.parent ≡ one.krate = one_id ids u.target.krate e.parent one.krate link.parent_at crate.crate_at in
      let other = crate_here r s ids ms t tables l.child e.child child link.says.child child_entry in
      let target = target_of r s ids ms t tables l.child j e.child child y other at in
      let goes = goes_somewhere s ms y target.0 u.placement one.placement y.is_macro refl target.1.says placed in
      let decides = passes_decides r s ids ms e.parent l e d u.placement.platform platform link.says placed.platform in
      let linked : IsLinkedFrom r s platform e target.0 = record {
        passes = decides.0 passes_there;
        has = target.1.has;
        linkable = target.1.says.linkable.0 is;
        native = other.says.native.0 natively;
        script = other.says.script.0 child_script;
      } in
      let features : HasFeaturesOf s one.placement.side n =
      subst (λ side. HasFeaturesOf s side n) placed.side (features_means s t u.placement.side tables.first) in
      gives r s ids ms t (unit_uses t u l) fact (means.RunNeeded e d one.placement goes.0) (unit_premises one e d n)
      (e, d, one.placement, goes.0, link.means, placed, goes.2, refl)
      (rules.run_below {u = one} {e = e} {d = d} parent (link.says.kind ∙ normal_kind l.kind kind) (crate.says.script.0 script) linked
      features goes.1) (uses_meant r s ids ms t tables u l e d link one means_it))

  pub runs_of_unit_sound : (u : UnitPlace) (p : CrateEntry) (l : Link) (e : Edge) (d : DependencyModel)
      → slice_get t.crates.items u.target.krate ≡ Some p → LinkOf r s ids ms t u.target.krate l e d
      → AreSound r s ids ms t (runs_of_unit t p u l)
  runs_of_unit_sound u p l e d entry link =
      let P = IsSound r s ids ms t in
      let ps = unit_uses t u l in
      let of_child = runs_in ps l u.placement in
      rows_where P (p.has_script && is_normal l.kind && passes l u.placement.platform)
      (of_some (slice_get t.crates.items l.child) of_child) (λ all.
      (let parts = both_parts (p.has_script && is_normal l.kind) (passes l u.placement.platform) all in
      let first = both_parts p.has_script (is_normal l.kind) parts.0 in
      rows_some P (slice_get t.crates.items l.child) of_child (λ child child_entry.
      rows_where P (child.links_natively && child.has_script) (flat_map (run_for ps l u.placement) child.targets.items) (λ both.
      (let two = both_parts child.links_natively child.has_script both in
      rows_flat P (run_for ps l u.placement) child.targets.items (λ y among.
      (let place = place_in child.targets.items y among in
      rows_if P y.is_linkable ps (RunNeeded l.place u.placement (goes_to y u.placement))
      (one_sound u p l e d child place.0 y entry link first.0 first.1 parts.1 child_entry two.0 two.1 place.1))))))))

  -- by a run that is needed, nothing follows
  pub sound_run_needed : (place : LinkPlace) (from run : PlacementNumber) → AreSound r s ids ms t (rows_of t (RunNeeded place from run))
  sound_run_needed place from run =
      let P = IsSound r s ids ms t in
      sound_rows r s ids ms t tables (RunNeeded place from run) (rows_none P)
      (λ entry i crate l e d resolves link. rows_none P) (λ entry i crate. rows_none P)

  -- ---- what the rules need is so by rows

  among_rows : (u : UnitPlace) (p : CrateEntry) (k : ℕ) (l : Link) (child : CrateEntry) (j : ℕ) (y : TargetEntry)
      → slice_get t.crates.items u.target.krate ≡ Some p → slice_get p.links.items k ≡ Some l
      → p.has_script ≡ true → is_normal l.kind ≡ true → passes l u.placement.platform ≡ true
      → slice_get t.crates.items l.child ≡ Some child → child.links_natively ≡ true → child.has_script ≡ true
      → slice_get child.targets.items j ≡ Some y → y.is_linkable ≡ true
      → Contains (rows_of t (Compiled u)) (rule (unit_uses t u l) (RunNeeded l.place u.placement (goes_to y u.placement)))
  among_rows u p k l child j y entry at script kind passes_there child_entry natively child_script target is =
      let ps = unit_uses t u l in
      let of_child = runs_in ps l u.placement in
      let fact = RunNeeded l.place u.placement (goes_to y u.placement) in
      let row = rule ps fact in
      let one : Contains (of_child child) row =
      in_where (child.links_natively && child.has_script) (flat_map (run_for ps l u.placement) child.targets.items) row
      (both_true child.links_natively child.has_script natively child_script)
      (in_flat_at (run_for ps l u.placement) child.targets.items j y row target (in_if y.is_linkable ps fact is)) in
      in_link t (Compiled u) p k l row entry at
      (Contains-append_right (libraries_of_unit t p u l) (runs_of_unit t p u l) row
      (in_where (p.has_script && is_normal l.kind && passes l u.placement.platform)
      (of_some (slice_get t.crates.items l.child) of_child) row
      (both_true (p.has_script && is_normal l.kind) (passes l u.placement.platform)
      (both_true p.has_script (is_normal l.kind) script kind) passes_there)
      (in_some (slice_get t.crates.items l.child) child of_child row child_entry one)))

  -- that a run is needed follows over each link of the dependency
  run_follows : (u : CompiledUnit) (e : Edge) (d : DependencyModel) (m : TargetModel) (n : Side) (at : Placement)
      → e.parent ≡ u.krate → e.kind ≡ Normal → HasTargetThat r u.krate IsScript → IsLinkedFrom r s u.placement.platform e m
      → HasFeaturesOf s u.placement.side n → GoesTo m u.placement at → HaveNumbers r s ids ms t (unit_premises u e d n)
      → (other : LinkPlace) (from run : PlacementNumber) → LinkMeans r s ids ms t other e d
      → PlacementMeans ms from u.placement → PlacementMeans ms run at → Follows t (RunNeeded other from run)
  run_follows u e d m n at parent kind script linked features goes have other from run is from_is run_is =
      let uses = uses_follow r s ids ms t tables u e d n parent features have other is in
      let place = uses.place in
      let placed = uses.unit_is.placement in
      let link = uses.link in
      let l = link.link in
      let child = entry_of r s ids ms t tables l.child e.child link.says.child in
      let target = target_at r s ids ms t tables l.child e.child child.0 m child.1 linked.has in
      let x = target.1 in
      let decides = passes_decides r s ids ms e.parent l e d place.placement.platform u.placement.platform link.says placed.platform in
      let fact = RunNeeded l.place place.placement (goes_to x place.placement) in
      let there : Follows t fact =
      by_rows t (Compiled place) (unit_uses t place l) fact
      (among_rows place uses.entry other.index l child.0 target.0 x uses.unit_is.crate.at uses.at
      (uses.unit_is.crate.says.script.1 script) (kind_is_normal l.kind (sym link.says.kind ∙ kind)) (decides.1 linked.passes)
      child.1.at (child.1.says.native.1 linked.native) (child.1.says.script.1 linked.script)
      target.2.at (target.2.says.linkable.1 linked.linkable)) uses.each in
      let same_from : place.placement ≡ from =
      placement_once ms place.placement from u.placement tables.machines_once placed from_is in
      let same_run : goes_to x place.placement ≡ run =
      placement_once ms (goes_to x place.placement) run at tables.machines_once
      (goes_number s ms x m place.placement u.placement at x.is_macro refl target.2.says placed goes) run_is in
      let one : Follows t (RunNeeded other place.placement (goes_to x place.placement)) =
      subst (λ w. Follows t (RunNeeded w place.placement (goes_to x place.placement))) link.place_is there in
      let two : Follows t (RunNeeded other from (goes_to x place.placement)) =
      subst (λ a. Follows t (RunNeeded other a (goes_to x place.placement))) same_from one in
      subst (λ b. Follows t (RunNeeded other from b)) same_run two

  pub run_below : (u : CompiledUnit) (e : Edge) (d : DependencyModel) (m : TargetModel) (n : Side) (at : Placement)
      → e.parent ≡ u.krate → e.kind ≡ Normal → HasTargetThat r u.krate IsScript → IsLinkedFrom r s u.placement.platform e m
      → HasFeaturesOf s u.placement.side n → GoesTo m u.placement at
      → IsCovered r s ids ms t (unit_premises u e d n) (means.RunNeeded e d u.placement at)
  run_below u e d m n at parent kind script linked features goes have =
      let compiled = unit_number r s ids ms t u (have (means.Compiled u) (inl refl)) in
      let place = compiled.0 in
      let placed = compiled.1.placement in
      let link = linked_here r s ids ms t tables e d (have (means.Linked e d) (inr (inl refl))) in
      let l = link.1.link in
      let child = entry_of r s ids ms t tables l.child e.child link.1.says.child in
      let target = target_at r s ids ms t tables l.child e.child child.0 m child.1 linked.has in
      let x = target.1 in
      let run_is = goes_number s ms x m place.placement u.placement at x.is_macro refl target.2.says placed goes in
      numbers r s ids ms t (means.RunNeeded e d u.placement at) (RunNeeded link.0 place.placement (goes_to x place.placement))
      (e, d, u.placement, at, link.1.means, placed, run_is, refl)
      (run_follows u e d m n at parent kind script linked features goes have)
