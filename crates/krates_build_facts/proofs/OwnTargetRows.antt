-- The rows of what a unit needs of its own crate, and all rows of a unit.
use Rattle.std.proofs.Common.{◌≡◌, ℕ, true, false, not, ◌&&◌, List, [], ◌∷◌, ◌++◌, Contains, Some, refl, sym, ap, ◌∙◌, subst, inl, inr, slice_get, flat_map}
use Rattle.std.proofs.lemmas.Option.{same_Some}
use Rattle.std.proofs.lemmas.List.Elements.{Contains-append_left, Contains-append_right}
use Rattle.krates_cm.specs.Document.{TargetModel}
use Rattle.krates_cm.specs.declared.target.TargetKind.TheVariants.{Bin}
use Rattle.krates_rules.specs.Facts.{Id}
use Rattle.krates_rules.specs.Resolved.{Resolved}
use Rattle.krates_units.specs.BuildFacts.{Fact, CompiledUnit, Placement}
use Rattle.krates_units.specs.BuildFacts as means
use Rattle.krates_units.specs.BuildRules.{unit}
use Rattle.krates_units.specs.BuildRules as rules
use Rattle.krates_units.specs.BuildSetting.{BuildSettingModel}
use Rattle.krates_units.specs.BuildTargets.{HasTarget, HasTargetThat, IsLibrary, IsLinkable, IsScript, RunsPrograms}
use Rattle.krates_units.specs.Built.{IsPremise}
use Rattle.krates_units.specs.Machines.{MachineModel}
use Rattle.krates_units.specs.Sides.{GoesTo}
use Rattle.krates_units.specs.declared.kinds.Mode.{Mode}
use Rattle.krates_units.specs.declared.kinds.Mode.TheVariants as modes
use Rattle.krates_units.specs.declared.sides.Side.TheVariants as sides
use Rattle.krates_build_tables.specs.TablesOf.{AreTables, CrateAt}
use Rattle.krates_build_tables.specs.declared.tables.CrateEntry.{CrateEntry}
use Rattle.krates_build_tables.specs.declared.tables.Tables.{Tables}
use Rattle.krates_build_tables.specs.declared.tables.TargetEntry.{TargetEntry}
use Rattle.krates_build_facts.specs.FactModels.{RuleModel, Compiled, ScriptRun}
use Rattle.krates_build_facts.specs.Meanings.{Follows, PlacementMeans}
use Rattle.krates_build_facts.specs.Rows.{goes_to, is_test, libraries_of_unit, needed_beside, requires, rows_of, rule, rule_if, runs_of_unit, unit_of}
use Rattle.krates_build_facts.specs.declared.facts.PlacementNumber.{PlacementNumber}
use Rattle.krates_build_facts.specs.declared.facts.UnitPlace.{UnitPlace}
use Rattle.krates_build_facts.proofs.Claims.{AreSound, HasNumbers, IsCovered, IsSound}
use Rattle.krates_build_facts.proofs.CoverRows.{by_rows, in_entry, numbers, unit_number}
use Rattle.krates_build_facts.proofs.Placements.{goes_number, goes_somewhere, placement_once}
use Rattle.krates_build_facts.proofs.Requirements.{requires_follow, requires_meant}
use Rattle.krates_build_facts.proofs.RowLists.{Each, each_more, each_one, here, in_flat_at, in_if, in_some, rows_append, rows_flat, rows_if, rows_none, rows_some, there}
use Rattle.krates_build_facts.proofs.RunRows.{runs_of_unit_sound}
use Rattle.krates_build_facts.proofs.SoundRows.{by_first, gives, sound_rows}
use Rattle.krates_build_facts.proofs.TargetEntries.{TargetHere, UnitHere, target_at, target_of, unit_at, unit_here, unit_means_there, unit_same}
use Rattle.krates_build_facts.proofs.Tests.{both_parts, both_true, is_not, not_true, untrue}
use Rattle.krates_build_facts.proofs.UnitLibraryRows.{libraries_of_unit_sound}
use Rattle.krates_rules.proofs.OnlyOne.{place_in}

-- what runs where the unit does, with the features of the targets' side
abbrev pub program_place : PlacementNumber → PlacementNumber
program_place n = record { platform = n.platform; side = sides.Targets }

abbrev pub program_placement : Placement → Placement
program_placement p = record { platform = p.platform; side = sides.Targets }

abbrev pub program_unit : UnitPlace → TargetEntry → UnitPlace
program_unit u y = record { target = y.place; mode = modes.Build; placement = program_place u.placement }

-- the rows of another target of its crate, beside a unit
abbrev pub library_beside : UnitPlace → TargetEntry → TargetEntry → List RuleModel
library_beside u x y = rule_if (not x.is_library && y.is_linkable) (Compiled u ∷ []) (Compiled (unit_of y u.placement))

abbrev pub programs_beside : UnitPlace → TargetEntry → TargetEntry → List RuleModel
programs_beside u x y =
    rule_if (is_test u.mode && x.may_run_programs && y.is_program) (Compiled u ∷ requires y) (Compiled (program_unit u y))

abbrev pub script_beside : UnitPlace → TargetEntry → List RuleModel
script_beside u y = rule_if y.is_script (Compiled u ∷ []) (ScriptRun u.target.krate u.placement)

test_mode : (mode : Mode) → is_test mode ≡ true → modes.Test ≡ mode
test_mode modes.Build is = absurd cc
test_mode modes.Test is = refl

mode_is_test : (mode : Mode) → mode ≡ modes.Test → is_test mode ≡ true
mode_is_test mode is = rw is refl

program_placed : (ms : List MachineModel) (n : PlacementNumber) (p : Placement) → PlacementMeans ms n p
    → PlacementMeans ms (program_place n) (program_placement p)
program_placed ms n p is = record { platform = is.platform; side = refl }

module _ (r : Resolved) (s : BuildSettingModel) (ids : List Id) (ms : List MachineModel) (t : Tables)
    (tables : AreTables r s ids ms t) where
  -- ---- the rows are rules

  library_sound : (u : UnitPlace) (e : CrateEntry) (x : TargetEntry) (j : ℕ) (y : TargetEntry)
      → slice_get t.crates.items u.target.krate ≡ Some e → slice_get e.targets.items u.target.index ≡ Some x
      → slice_get e.targets.items j ≡ Some y → x.is_library ≡ false → y.is_linkable ≡ true
      → IsSound r s ids ms t (Compiled u ∷ []) (Compiled (unit_of y u.placement))
  library_sound u e x j y entry target at no_library linkable =
      by_first r s ids ms t (Compiled u) [] (Compiled (unit_of y u.placement)) (λ f compiled.
      let one = compiled.0 in
      let unit_is : UnitHere r s ids ms t u one e x = unit_at r s ids ms t tables u one e x compiled.1 entry target in
      let other = target_of r s ids ms t tables u.target.krate j one.krate e y unit_is.crate at in
      let goes = goes_somewhere s ms y other.0 u.placement one.placement y.is_macro refl other.1.says unit_is.placement in
      let no : ¬ IsLibrary one.target = λ is. absurd (let yes : x.is_library ≡ true = unit_is.target.says.library.1 is in cc) in
      let needed = unit one.krate other.0 modes.Build goes.0 in
      let needed_is = unit_means_there r s ids ms t tables u.target.krate
      (record { krate = u.target.krate; index = j }) one.krate e y other.0 modes.Build
      (goes_to y u.placement) goes.0 refl unit_is.crate other.1 goes.2 in
      gives r s ids ms t (Compiled u ∷ []) (Compiled (unit_of y u.placement)) (means.Compiled needed) (means.Compiled one ∷ [])
      (needed, needed_is, refl {a = means.Compiled needed})
      (rules.own_library {u = one} no other.1.has (other.1.says.linkable.0 linkable) goes.1) ((one, compiled.1, refl), tt))

  program_sound : (u : UnitPlace) (e : CrateEntry) (x : TargetEntry) (j : ℕ) (y : TargetEntry)
      → slice_get t.crates.items u.target.krate ≡ Some e → slice_get e.targets.items u.target.index ≡ Some x
      → slice_get e.targets.items j ≡ Some y → is_test u.mode ≡ true → x.may_run_programs ≡ true → y.is_program ≡ true
      → IsSound r s ids ms t (Compiled u ∷ requires y) (Compiled (program_unit u y))
  program_sound u e x j y entry target at tests runs program =
      by_first r s ids ms t (Compiled u) (requires y) (Compiled (program_unit u y)) (λ f compiled.
      let one = compiled.0 in
      let unit_is : UnitHere r s ids ms t u one e x = unit_at r s ids ms t tables u one e x compiled.1 entry target in
      let other = target_of r s ids ms t tables u.target.krate j one.krate e y unit_is.crate at in
      let mode : modes.Test ≡ one.mode = test_mode u.mode tests ∙ unit_is.mode in
      let runs_it : RunsPrograms one.target one.mode = subst (RunsPrograms one.target) mode (unit_is.target.says.runs.0 runs) in
      let required = requires_meant r s ids ms t u.target.krate one.krate y other.0
      (ap (λ w. w.krate) other.1.place_is) unit_is.crate.crate_at other.1.says in
      let placement = program_placement one.placement in
      let needed = unit one.krate other.0 modes.Build placement in
      let needed_is = unit_means_there r s ids ms t tables u.target.krate
      (record { krate = u.target.krate; index = j }) one.krate e y other.0 modes.Build
      (program_place u.placement) placement refl unit_is.crate other.1
      (program_placed ms u.placement one.placement unit_is.placement) in
      gives r s ids ms t (Compiled u ∷ requires y) (Compiled (program_unit u y)) (means.Compiled needed)
      (means.Compiled one ∷ rules.requires one.krate other.0) (needed, needed_is, refl {a = means.Compiled needed})
      (rules.own_program {u = one} runs_it other.1.has (other.1.says.program.0 program)) ((one, compiled.1, refl), required))

  script_sound : (u : UnitPlace) (e : CrateEntry) (x : TargetEntry) (j : ℕ) (y : TargetEntry)
      → slice_get t.crates.items u.target.krate ≡ Some e → slice_get e.targets.items u.target.index ≡ Some x
      → slice_get e.targets.items j ≡ Some y → y.is_script ≡ true
      → IsSound r s ids ms t (Compiled u ∷ []) (ScriptRun u.target.krate u.placement)
  script_sound u e x j y entry target at script =
      by_first r s ids ms t (Compiled u) [] (ScriptRun u.target.krate u.placement) (λ f compiled.
      let one = compiled.0 in
      let unit_is : UnitHere r s ids ms t u one e x = unit_at r s ids ms t tables u one e x compiled.1 entry target in
      let other = target_of r s ids ms t tables u.target.krate j one.krate e y unit_is.crate at in
      gives r s ids ms t (Compiled u ∷ []) (ScriptRun u.target.krate u.placement) (means.ScriptRun one.krate one.placement)
      (means.Compiled one ∷ []) (one.krate, one.placement, unit_is.crate.crate_at, unit_is.placement, refl)
      (rules.script_run {u = one} (other.0, other.1.has, other.1.says.script.0 script)) ((one, compiled.1, refl), tt))

  beside_sound : (u : UnitPlace) (e : CrateEntry) (x : TargetEntry) (j : ℕ) (y : TargetEntry)
      → slice_get t.crates.items u.target.krate ≡ Some e → slice_get e.targets.items u.target.index ≡ Some x
      → slice_get e.targets.items j ≡ Some y → AreSound r s ids ms t (needed_beside u x y)
  beside_sound u e x j y entry target at =
      let P = IsSound r s ids ms t in
      rows_append P (library_beside u x y ++ programs_beside u x y) (script_beside u y)
      (rows_append P (library_beside u x y) (programs_beside u x y)
      (rows_if P (not x.is_library && y.is_linkable) (Compiled u ∷ []) (Compiled (unit_of y u.placement)) (λ both.
      (let parts = both_parts (not x.is_library) y.is_linkable both in
      library_sound u e x j y entry target at (not_true x.is_library parts.0) parts.1)))
      (rows_if P (is_test u.mode && x.may_run_programs && y.is_program) (Compiled u ∷ requires y) (Compiled (program_unit u y)) (λ all.
      (let parts = both_parts (is_test u.mode && x.may_run_programs) y.is_program all in
      let more = both_parts (is_test u.mode) x.may_run_programs parts.0 in
      program_sound u e x j y entry target at more.0 more.1 parts.1))))
      (rows_if P y.is_script (Compiled u ∷ []) (ScriptRun u.target.krate u.placement) (script_sound u e x j y entry target at))

  pub sound_compiled : (u : UnitPlace) → AreSound r s ids ms t (rows_of t (Compiled u))
  sound_compiled u =
      let P = IsSound r s ids ms t in
      sound_rows r s ids ms t tables (Compiled u) (rows_none P)
      (λ e i crate l edge d resolves link.
      rows_append P (libraries_of_unit t e u l) (runs_of_unit t e u l)
      (libraries_of_unit_sound r s ids ms t tables u e l edge d crate.at link)
      (runs_of_unit_sound r s ids ms t tables u e l edge d crate.at link))
      (λ e i crate. rows_some P (slice_get e.targets.items u.target.index) (λ x. flat_map (needed_beside u x) e.targets.items) (λ x target.
      rows_flat P (needed_beside u x) e.targets.items (λ y among.
      (let place = place_in e.targets.items y among in
      beside_sound u e x place.0 y crate.at target place.1))))

  -- ---- what the rules need is so by rows

  among_rows : (u : UnitPlace) (e : CrateEntry) (x : TargetEntry) (j : ℕ) (y : TargetEntry) (row : RuleModel)
      → slice_get t.crates.items u.target.krate ≡ Some e → slice_get e.targets.items u.target.index ≡ Some x
      → slice_get e.targets.items j ≡ Some y → Contains (needed_beside u x y) row → Contains (rows_of t (Compiled u)) row
  among_rows u e x j y row entry target at there =
      in_entry t (Compiled u) e row entry
      (in_some (slice_get e.targets.items u.target.index) x (λ x. flat_map (needed_beside u x) e.targets.items) row target
      (in_flat_at (needed_beside u x) e.targets.items j y row at there))

  -- another target of the crate, by any place of a unit of it
  beside_it : (u w : UnitPlace) (one other : CompiledUnit) (e f : CrateEntry) (x y : TargetEntry) → other.krate ≡ one.krate
      → UnitHere r s ids ms t u one e x → UnitHere r s ids ms t w other f y
      → (w.target.krate ≡ u.target.krate) × (slice_get e.targets.items w.target.index ≡ Some y)
  beside_it u w one other e f x y same here there =
      let number : w.target.krate ≡ u.target.krate =
      tables.ids_once w.target.krate u.target.krate one.krate (subst
      (CrateAt ids w.target.krate) same there.crate.crate_at) here.crate.crate_at in
      let entry : f ≡ e = same_Some f e (sym (subst (λ c. slice_get t.crates.items c ≡ Some f) number there.crate.at) ∙ here.crate.at) in
      (number, subst (λ e. slice_get e.targets.items w.target.index ≡ Some y) entry there.target.at)

  library_follows : (u w : UnitPlace) (one : CompiledUnit) (l : TargetModel) (at : Placement) (e f : CrateEntry) (x y : TargetEntry)
      → ¬ IsLibrary one.target → IsLinkable l → GoesTo l one.placement at
      → UnitHere r s ids ms t u one e x → UnitHere r s ids ms t w (unit one.krate l modes.Build at) f y → Follows t (Compiled u)
      → Follows t (Compiled w)
  library_follows u w one l at e f x y other linkable goes here there compiled =
      let beside = beside_it u w one (unit one.krate l modes.Build at) e f x y refl here there in
      let ps = Compiled u ∷ [] in
      let fact = Compiled (unit_of y u.placement) in
      let no_library : x.is_library ≡ false = untrue x.is_library (λ is. other (here.target.says.library.0 is)) in
      let both = both_true (not x.is_library) y.is_linkable (is_not x.is_library no_library) (there.target.says.linkable.1 linkable) in
      let row = Contains-append_left (library_beside u x y ++ programs_beside u x y) (script_beside u y) (rule ps fact)
      (Contains-append_left (library_beside u x y) (programs_beside u x y) (rule ps fact)
      (in_if (not x.is_library && y.is_linkable) ps fact both)) in
      let follows_it : Follows t fact =
      by_rows t (Compiled u) ps fact (among_rows u e x w.target.index y (rule ps fact) here.crate.at here.target.at beside.1 row)
      (each_one (Follows t) (Compiled u) compiled) in
      let same = unit_same r s ids ms t tables w y modes.Build (goes_to y u.placement) at there.target.place_is there.mode there.placement
      (goes_number s ms y l u.placement one.placement at y.is_macro refl there.target.says here.placement goes) in
      subst (λ w. Follows t (Compiled w)) same follows_it

  pub own_library : (u : CompiledUnit) (l : TargetModel) (at : Placement) → ¬ IsLibrary u.target → HasTarget r u.krate l → IsLinkable l
      → GoesTo l u.placement at → IsCovered r s ids ms t (means.Compiled u ∷ []) (means.Compiled (unit u.krate l modes.Build at))
  own_library u l at other has linkable goes have =
      let fact = means.Compiled (unit u.krate l modes.Build at) in
      let compiled = unit_number r s ids ms t u (have (means.Compiled u) (inl refl)) in
      let here = unit_here r s ids ms t tables compiled.0 u compiled.1 in
      let target = target_at r s ids ms t tables compiled.0.target.krate u.krate here.0 l here.2.crate has in
      let n = goes_to target.1 compiled.0.placement in
      let unit_is = unit_means_there r s ids ms t tables compiled.0.target.krate
      (record {
        krate = compiled.0.target.krate;
        index = target.0;
      }) u.krate here.0 target.1 l modes.Build n at refl here.2.crate target.2
      (goes_number s ms target.1 l compiled.0.placement u.placement at target.1.is_macro refl target.2.says here.2.placement goes) in
      numbers r s ids ms t fact (Compiled (unit_of target.1 compiled.0.placement)) (unit u.krate l modes.Build at, unit_is, refl) (λ w is.
      (let there = unit_here r s ids ms t tables w (unit u.krate l modes.Build at) is in
      library_follows compiled.0 w u l at here.0 there.0 here.1 there.1 other linkable goes here.2 there.2 compiled.2))

  program_follows : (u w : UnitPlace) (one : CompiledUnit) (b : TargetModel) (e f : CrateEntry) (x y : TargetEntry)
      → RunsPrograms one.target one.mode → Contains b.kind Bin
      → UnitHere r s ids ms t u one e x → UnitHere r s ids ms t w (unit one.krate b modes.Build (program_placement one.placement)) f y
      → Follows t (Compiled u)
      → ((g : Fact) → IsPremise g (rules.requires one.krate b) → HasNumbers r s ids ms t g) → Follows t (Compiled w)
  program_follows u w one b e f x y runs program here there compiled have =
      let placement = program_placement one.placement in
      let beside = beside_it u w one (unit one.krate b modes.Build placement) e f x y refl here there in
      let ps = Compiled u ∷ requires y in
      let fact = Compiled (program_unit u y) in
      let tests : is_test u.mode ≡ true = mode_is_test u.mode (here.mode ∙ runs.with_tests) in
      let runs_it : RunsPrograms one.target modes.Test = subst (RunsPrograms one.target) runs.with_tests runs in
      let all = both_true (is_test u.mode && x.may_run_programs) y.is_program
      (both_true (is_test u.mode) x.may_run_programs tests (here.target.says.runs.1 runs_it)) (there.target.says.program.1 program) in
      let row = Contains-append_left (library_beside u x y ++ programs_beside u x y) (script_beside u y) (rule ps fact)
      (Contains-append_right (library_beside u x y) (programs_beside u x y) (rule ps fact)
      (in_if (is_test u.mode && x.may_run_programs && y.is_program) ps fact all)) in
      let premises : Each (Follows t) ps = each_more (Follows t) (Compiled u) (requires y) compiled
      (requires_follow r s ids ms t w.target.krate one.krate y b (ap
      (λ w. w.krate) there.target.place_is) there.crate.crate_at there.target.says have) in
      let follows_it : Follows t fact =
      by_rows t (Compiled u) ps fact (among_rows u e x w.target.index y
      (rule ps fact) here.crate.at here.target.at beside.1 row) premises in
      let same = unit_same r s ids ms t tables w y modes.Build
      (program_place u.placement) placement there.target.place_is there.mode there.placement
      (program_placed ms u.placement one.placement here.placement) in
      subst (λ w. Follows t (Compiled w)) same follows_it

  pub own_program : (u : CompiledUnit) (b : TargetModel) → RunsPrograms u.target u.mode → HasTarget r u.krate b → Contains b.kind Bin
      → IsCovered r s ids ms t (means.Compiled u ∷ rules.requires u.krate b)
      (means.Compiled (unit u.krate b modes.Build (record { platform = u.placement.platform; side = sides.Targets })))
  own_program u b runs has program have =
      let placement = program_placement u.placement in
      let fact = means.Compiled (unit u.krate b modes.Build placement) in
      let compiled = unit_number r s ids ms t u (have (means.Compiled u) (inl refl)) in
      let here = unit_here r s ids ms t tables compiled.0 u compiled.1 in
      let target = target_at r s ids ms t tables compiled.0.target.krate u.krate here.0 b here.2.crate has in
      let n = program_place compiled.0.placement in
      let unit_is = unit_means_there r s ids ms t tables compiled.0.target.krate
      (record {
        krate = compiled.0.target.krate;
        index = target.0;
      }) u.krate here.0 target.1 b modes.Build n placement refl here.2.crate target.2
      (program_placed ms compiled.0.placement u.placement here.2.placement) in
      numbers r s ids ms t fact (Compiled (program_unit compiled.0 target.1)) (unit u.krate b modes.Build placement, unit_is, refl) (λ w is.
      (let there = unit_here r s ids ms t tables w (unit u.krate b modes.Build placement) is in
      program_follows compiled.0 w u b here.0 there.0 here.1 there.1 runs program here.2 there.2 compiled.2
      (λ g is. have g (inr is))))

  script_follows : (u : UnitPlace) (one : CompiledUnit) (m : TargetModel) (e : CrateEntry) (x y : TargetEntry) (j c : ℕ)
      (n : PlacementNumber) → IsScript m → UnitHere r s ids ms t u one e x
      → TargetHere r s e (record { krate = u.target.krate; index = j }) one.krate y m → CrateAt ids c one.krate
      → PlacementMeans ms n one.placement → Follows t (Compiled u) → Follows t (ScriptRun c n)
  script_follows u one m e x y j c n script here target crate placed compiled =
      let ps = Compiled u ∷ [] in
      let fact = ScriptRun u.target.krate u.placement in
      let row = Contains-append_right (library_beside u x y ++ programs_beside u x y) (script_beside u y) (rule ps fact)
      (in_if y.is_script ps fact (target.says.script.1 script)) in
      let follows_it : Follows t fact =
      by_rows t (Compiled u) ps fact (among_rows u e x j y (rule ps fact) here.crate.at here.target.at target.at row)
      (each_one (Follows t) (Compiled u) compiled) in
      let number : u.target.krate ≡ c = tables.ids_once u.target.krate c one.krate here.crate.crate_at crate in
      let placement : u.placement ≡ n = placement_once ms u.placement n one.placement tables.machines_once here.placement placed in
      subst (λ c. Follows t (ScriptRun c n)) number (subst (λ n. Follows t (ScriptRun u.target.krate n)) placement follows_it)

  pub script_run : (u : CompiledUnit) → HasTargetThat r u.krate IsScript
      → IsCovered r s ids ms t (means.Compiled u ∷ []) (means.ScriptRun u.krate u.placement)
  script_run u script have =
      let fact = means.ScriptRun u.krate u.placement in
      let compiled = unit_number r s ids ms t u (have (means.Compiled u) (inl refl)) in
      let here = unit_here r s ids ms t tables compiled.0 u compiled.1 in
      let target = target_at r s ids ms t tables compiled.0.target.krate u.krate here.0 script.0 here.2.crate script.1 in
      numbers r s ids ms t fact (ScriptRun compiled.0.target.krate compiled.0.placement)
      (u.krate, u.placement, here.2.crate.crate_at, here.2.placement, refl) (λ c n crate placed.
      script_follows compiled.0 u script.0 here.0 here.1 target.1 target.0 c n script.2 here.2 target.2 crate placed compiled.2)
