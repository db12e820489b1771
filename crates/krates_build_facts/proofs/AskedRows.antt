-- The rows of the targets that are asked for, with which a build begins, and all rows with which it begins.
use Rattle.std.proofs.Common.{◌≡◌, ℕ, ◌<◌, Bool, true, false, List, [], Contains, length, get_or, Some, if◌then◌else◌, refl, sym, ap, ◌∙◌, subst, slice_get, flat_map, arith}
use Rattle.std.specs.List.{range_with_len}
use Rattle.std.proofs.lemmas.Option.{slice_get-get_or, slice_get_within}
use Rattle.std.proofs.lemmas.List.Elements.{Contains-append_left, Contains-append_right}
use Rattle.std.proofs.lemmas.List.FromFn.{get_or-range_with_len, length-range_with_len}
use Rattle.krates_cm.specs.Document.{TargetModel}
use Rattle.krates_rules.specs.Facts.{Id}
use Rattle.krates_rules.specs.Resolved.{Resolved}
use Rattle.krates_rules.proofs.OnlyOne.{place_in}
use Rattle.krates_rules.proofs.Standings.{contains_at}
use Rattle.krates_units.specs.BuildFacts.{CompiledUnit, Fact, Placement, machine}
use Rattle.krates_units.specs.BuildFacts as means
use Rattle.krates_units.specs.BuildRules.{IsAsked, Rule, machine_placement, unit}
use Rattle.krates_units.specs.BuildRules as rules
use Rattle.krates_units.specs.BuildSetting.{BuildSettingModel}
use Rattle.krates_units.specs.BuildTargets.{AsksFor, IsLibrary}
use Rattle.krates_units.specs.Machines.{MachineModel}
use Rattle.krates_units.specs.declared.kinds.Mode.{Mode}
use Rattle.krates_units.specs.declared.kinds.Mode.TheVariants as modes
use Rattle.krates_build_tables.specs.TablesOf.{AreTables, CrateAt, TargetSays}
use Rattle.krates_build_tables.specs.declared.tables.CrateEntry.{CrateEntry}
use Rattle.krates_build_tables.specs.declared.tables.Tables.{Tables}
use Rattle.krates_build_tables.specs.declared.tables.TargetEntry.{TargetEntry}
use Rattle.krates_build_facts.specs.FactModels.{RuleModel, Compiled}
use Rattle.krates_build_facts.specs.InitialRows.{asked_for_machine, asked_in, asked_requires, asked_rows, initial_in, initial_rows, machine_count, machine_place, root_rows}
use Rattle.krates_build_facts.specs.Meanings.{AreMeant, Follows, PlacementMeans}
use Rattle.krates_build_facts.specs.Rows.{goes_to, requires, rule}
use Rattle.krates_build_facts.specs.declared.facts.UnitPlace.{UnitPlace}
use Rattle.krates_build_facts.proofs.Claims.{AreSound, HasNumbers, IsCovered, IsSound}
use Rattle.krates_build_facts.proofs.CoverRows.{by_initial, numbers}
use Rattle.krates_build_facts.proofs.Placements.{goes_number, goes_somewhere}
use Rattle.krates_build_facts.proofs.Requirements.{requires_follow, requires_meant}
use Rattle.krates_build_facts.proofs.RootRows.{root_rows_sound}
use Rattle.krates_build_facts.proofs.RowLists.{Each, each_unless, here, in_flat_at, in_if, in_unless, in_where, rows_append, rows_flat, rows_if, rows_unless, rows_where, there}
use Rattle.krates_build_facts.proofs.SoundRows.{gives}
use Rattle.krates_build_facts.proofs.TableEntries.{beside, crate_of, entry_of, machine_count_is}
use Rattle.krates_build_facts.proofs.TargetEntries.{UnitHere, target_at, target_of, unit_here, unit_means_there, unit_same}
use Rattle.krates_build_facts.proofs.Tests.{untrue}

-- ---- machines by number

-- a number below the length is that of an element
element_at : {A : Type 0} (xs : List A) (n k : ℕ) → n ≡ length xs → Contains (range_with_len 0 n) k → (x : A) × (slice_get xs k ≡ Some x)
element_at xs n k long (j, lt, is) =
    let below : j < n = omega (arith, length-range_with_len 0 n) in
    let number : k ≡ j = sym is ∙ (omega (arith, get_or-range_with_len 0 n j k below)) in
    let at : slice_get (range_with_len 0 n) j ≡ Some (get_or (range_with_len 0 n) j k) = slice_get-get_or (range_with_len 0 n) j k lt in
    let found = beside xs (range_with_len 0 n) j (get_or (range_with_len 0 n) j k) (omega (arith, length-range_with_len 0 n)) at in
    (found.0, ap (slice_get xs) number ∙ found.1)

number_at : {A : Type 0} (xs : List A) (n k : ℕ) (x : A) → n ≡ length xs → slice_get xs k ≡ Some x
    → slice_get (range_with_len 0 n) k ≡ Some k
number_at xs n k x long at =
    let below : k < n = omega (arith, slice_get_within xs k x at) in
    let number : get_or (range_with_len 0 n) k 0 ≡ k = omega (arith, get_or-range_with_len 0 n k 0 below) in
    slice_get-get_or (range_with_len 0 n) k 0 (omega (arith, length-range_with_len 0 n)) ∙ ap (λ j. Some j) number

machine_means : (ms : List MachineModel) (k : ℕ) (m : MachineModel) → slice_get ms k ≡ Some m
    → PlacementMeans ms (machine_place k) (machine_placement m)
machine_means ms k m at = record { platform = (m, at, refl); side = refl }

-- what is asked for in a mode, by its place
abbrev pub asked_unit : TargetEntry → Mode → ℕ → UnitPlace
asked_unit x mode k = record { target = x.place; mode = mode; placement = goes_to x (machine_place k) }

among_modes : (s : BuildSettingModel) (x : TargetEntry) (m : TargetModel) (mode : Mode) (k : ℕ) → TargetSays s x m
    → AsksFor s.kinds m mode → Contains (asked_for_machine x k) (rule (asked_requires x) (Compiled (asked_unit x mode k)))
among_modes s x m modes.Build k says asks =
    let row = rule (asked_requires x) (Compiled (asked_unit x modes.Build k)) in
    Contains-append_left (asked_in x.is_asked modes.Build x k) (asked_in x.is_asked_with_tests modes.Test x k) row
    (in_if x.is_asked (asked_requires x) (Compiled (asked_unit x modes.Build k)) (says.asked.1 asks))
among_modes s x m modes.Test k says asks =
    let row = rule (asked_requires x) (Compiled (asked_unit x modes.Test k)) in
    Contains-append_right (asked_in x.is_asked modes.Build x k) (asked_in x.is_asked_with_tests modes.Test x k) row
    (in_if x.is_asked_with_tests (asked_requires x) (Compiled (asked_unit x modes.Test k)) (says.asked_with_tests.1 asks))

module _ (r : Resolved) (s : BuildSettingModel) (ids : List Id) (ms : List MachineModel) (t : Tables)
    (tables : AreTables r s ids ms t) where
  -- ---- the rows are rules

  -- by the rule for libraries, or by that for other targets
  asked_by : (c : ℕ) (i : Id) (x : TargetEntry) (u : CompiledUnit) (b : Bool) → x.is_library ≡ b → x.place.krate ≡ c
      → CrateAt ids c i → u.krate ≡ i → TargetSays s x u.target → IsAsked r s u
      → (premises : List Fact) × Rule r s premises (means.Compiled u) × AreMeant r s ids ms t (asked_requires x) premises
  asked_by c i x u true is number crate of says asked =
      let none : asked_requires x ≡ [] = ap (λ (b : Bool). if b then [] else requires x) is in
      ([], rules.asked_library asked (says.library.0 is), subst (λ ns. AreMeant r s ids ms t ns []) (sym none) tt)
  asked_by c i x u false is number crate of says asked =
      let all : asked_requires x ≡ requires x = ap (λ (b : Bool). if b then [] else requires x) is in
      let premises = rules.requires u.krate u.target in (
        premises,
        rules.asked asked (λ library. absurd (let yes : x.is_library ≡ true = says.library.1 library in cc)),
        subst (λ ns. AreMeant r s ids ms t ns premises) (sym all)
            (requires_meant r s ids ms t c u.krate x u.target number (subst (CrateAt ids c) (sym of) crate) says),
      )

  asked_sound : (c j k : ℕ) (e : CrateEntry) (x : TargetEntry) (mode : Mode) → slice_get t.crates.items c ≡ Some e
      → slice_get e.targets.items j ≡ Some x → e.is_selected ≡ true → x.is_script ≡ false
      → Contains (range_with_len 0 (machine_count t)) k → ((m : TargetModel) → TargetSays s x m → AsksFor s.kinds m mode)
      → IsSound r s ids ms t (asked_requires x) (Compiled (asked_unit x mode k))
  asked_sound c j k e x mode entry at selected no_script number asks =
      let crate = crate_of r s ids ms t tables c e entry in
      let i = crate.0 in
      let target = target_of r s ids ms t tables c j i e x crate.1 at in
      let m = target.0 in
      let machine_at = element_at ms (machine_count t) k (machine_count_is tables) number in
      let placed = machine_means ms k machine_at.0 machine_at.1 in
      let goes = goes_somewhere s ms x m (machine_place k) (machine_placement machine_at.0) x.is_macro refl target.1.says placed in
      let u = unit i m mode goes.0 in
      let asked : IsAsked r s u = record {
        selected = crate.1.says.selected.0 selected;
        has = target.1.has;
        no_script = λ script. absurd (let yes : x.is_script ≡ true = target.1.says.script.1 script in cc);
        asked = asks m target.1.says;
        target = machine_at.0;
        among = (tables.machines_are machine_at.0).1 (contains_at ms k machine_at.0 machine_at.1);
        goes = goes.1;
      } in
      let unit_is = unit_means_there r s ids ms t tables c (record { krate = c; index = j }) i e x m mode (goes_to x (machine_place k)) goes.0
      refl crate.1 target.1 goes.2 in
      let by = asked_by c i x u x.is_library refl (ap (λ w. w.krate) target.1.place_is) crate.1.crate_at refl target.1.says asked in
      gives r s ids ms t (asked_requires x) (Compiled (asked_unit x mode k)) (means.Compiled u) by.0 (u, unit_is, refl) by.1 by.2

  targets_sound : (c : ℕ) (e : CrateEntry) → slice_get t.crates.items c ≡ Some e → e.is_selected ≡ true
      → AreSound r s ids ms t (flat_map (asked_rows (machine_count t)) e.targets.items)
  targets_sound c e entry selected =
      let P = IsSound r s ids ms t in
      rows_flat P (asked_rows (machine_count t)) e.targets.items (λ x among.
      (let place = place_in e.targets.items x among in
      rows_unless P x.is_script (flat_map (asked_for_machine x) (range_with_len 0 (machine_count t))) (λ no_script.
      rows_flat P (asked_for_machine x) (range_with_len 0 (machine_count t)) (λ k number.
      rows_append P (asked_in x.is_asked modes.Build x k) (asked_in x.is_asked_with_tests modes.Test x k)
      (rows_if P x.is_asked (asked_requires x) (Compiled (asked_unit x modes.Build k)) (λ is.
      asked_sound c place.0 k e x modes.Build entry place.1 selected no_script number (λ m says. says.asked.0 is)))
      (rows_if P x.is_asked_with_tests (asked_requires x) (Compiled (asked_unit x modes.Test k)) (λ is.
      asked_sound c place.0 k e x modes.Test entry place.1 selected no_script number (λ m says. says.asked_with_tests.0 is)))))))

  pub sound_initial : AreSound r s ids ms t (initial_rows t)
  sound_initial =
      let P = IsSound r s ids ms t in
      rows_flat P (initial_in (machine_count t)) t.crates.items (λ e among.
      (let place = place_in t.crates.items e among in
      rows_append P (root_rows e) (if e.is_selected then flat_map (asked_rows (machine_count t)) e.targets.items else [])
      (root_rows_sound r s ids ms t tables place.0 e place.1)
      (rows_where P e.is_selected (flat_map (asked_rows (machine_count t)) e.targets.items) (targets_sound place.0 e place.1))))

  -- ---- what the rules ask for is so by rows

  among_rows : (c j k : ℕ) (e : CrateEntry) (x : TargetEntry) (row : RuleModel) → slice_get t.crates.items c ≡ Some e
      → slice_get e.targets.items j ≡ Some x → e.is_selected ≡ true → x.is_script ≡ false
      → slice_get (range_with_len 0 (machine_count t)) k ≡ Some k → Contains (asked_for_machine x k) row → Contains (initial_rows t) row
  among_rows c j k e x row entry at selected no_script number there =
      in_flat_at (initial_in (machine_count t)) t.crates.items c e row entry
      (Contains-append_right (root_rows e) (if e.is_selected then flat_map (asked_rows (machine_count t)) e.targets.items else []) row
      (in_where e.is_selected (flat_map (asked_rows (machine_count t)) e.targets.items) row selected
      (in_flat_at (asked_rows (machine_count t)) e.targets.items j x row at
      (in_unless x.is_script (flat_map (asked_for_machine x) (range_with_len 0 (machine_count t))) row no_script
      (in_flat_at (asked_for_machine x) (range_with_len 0 (machine_count t)) k k row number there)))))

  -- a number of what is asked for follows, if what it requires does
  asked_follows : (u : CompiledUnit) (w : UnitPlace) (e : CrateEntry) (x : TargetEntry) → IsAsked r s u → UnitHere r s ids ms t w u e x
      → Each (Follows t) (asked_requires x) → Follows t (Compiled w)
  asked_follows u w e x asked here each =
      let number = place_in ms asked.target ((tables.machines_are asked.target).0 asked.among) in
      let k = number.0 in
      let fact = Compiled (asked_unit x u.mode k) in
      let row = rule (asked_requires x) fact in
      let no_script : x.is_script ≡ false = untrue x.is_script (λ is. asked.no_script (here.target.says.script.0 is)) in
      let there = among_rows w.target.krate w.target.index k e x row here.crate.at here.target.at
      (here.crate.says.selected.1 asked.selected) no_script
      (number_at ms (machine_count t) k asked.target (machine_count_is tables) number.1)
      (among_modes s x u.target u.mode k here.target.says asked.asked) in
      let placed =
      goes_number s ms x u.target (machine_place k) (machine_placement asked.target) u.placement x.is_macro refl here.target.says
      (machine_means ms k asked.target number.1) asked.goes in
      let same = unit_same r s ids ms t tables w x u.mode (goes_to x
      (machine_place k)) u.placement here.target.place_is here.mode here.placement placed in
      subst (λ w. Follows t (Compiled w)) same (by_initial t (asked_requires x) fact there each)

  -- so what is asked for has numbers
  asked_numbers : (u : CompiledUnit) → IsAsked r s u
      → ((c : ℕ) (x : TargetEntry) → x.place.krate ≡ c → CrateAt ids c u.krate → TargetSays s x u.target
      → Each (Follows t) (asked_requires x))
      → HasNumbers r s ids ms t (means.Compiled u)
  asked_numbers u asked uses =
      let fact = means.Compiled u in
      let crate = tables.packages u.krate asked.has.pkg asked.has.has_package in
      let entry = entry_of r s ids ms t tables crate.0 u.krate crate.1 in
      let target = target_at r s ids ms t tables crate.0 u.krate entry.0 u.target entry.1 asked.has in
      let x = target.1 in
      let number = place_in ms asked.target ((tables.machines_are asked.target).0 asked.among) in
      let placed =
      goes_number s ms x u.target (machine_place number.0) (machine_placement asked.target) u.placement x.is_macro refl target.2.says
      (machine_means ms number.0 asked.target number.1) asked.goes in
      let unit_is = unit_means_there r s ids ms t tables crate.0 (record { krate = crate.0; index = target.0 }) u.krate entry.0 x u.target
      u.mode (goes_to x (machine_place number.0)) u.placement refl entry.1 target.2 placed in
      numbers r s ids ms t fact (Compiled (asked_unit x u.mode number.0)) (u, unit_is, refl) (λ w is.
      (let here = unit_here r s ids ms t tables w u is in
      asked_follows u w here.0 here.1 asked here.2
      (uses w.target.krate here.1 (ap (λ w. w.krate) here.2.target.place_is) here.2.crate.crate_at here.2.target.says)))

  pub asked_library : (u : CompiledUnit) → IsAsked r s u → IsLibrary u.target → IsCovered r s ids ms t [] (means.Compiled u)
  asked_library u asked library have =
      asked_numbers u asked (λ c x number crate says.
      each_unless (Follows t) x.is_library (requires x) (λ no_library. absurd
      (let yes : x.is_library ≡ true = says.library.1 library in cc)))

  pub asked : (u : CompiledUnit) → IsAsked r s u → ¬ IsLibrary u.target
      → IsCovered r s ids ms t (rules.requires u.krate u.target) (means.Compiled u)
  asked u is_asked other have =
      asked_numbers u is_asked (λ c x number crate says.
      each_unless (Follows t) x.is_library (requires x) (λ no_library.
      requires_follow r s ids ms t c u.krate x u.target number crate says have))
