-- The rows of the libraries that are needed over a link.
use Rattle.std.proofs.Common.{◌≡◌, ℕ, true, List, [], ◌∷◌, Contains, Some, refl, subst, inl, slice_get, flat_map}
use Rattle.krates_cm.specs.Document.{DependencyModel, TargetModel}
use Rattle.krates_rules.specs.Facts.{Id, Edge}
use Rattle.krates_rules.specs.Resolved.{Resolved}
use Rattle.krates_units.specs.BuildFacts.{Fact, CompiledUnit, Placement, Platform}
use Rattle.krates_units.specs.BuildFacts as means
use Rattle.krates_units.specs.BuildRules.{unit}
use Rattle.krates_units.specs.BuildRules as rules
use Rattle.krates_units.specs.BuildSetting.{BuildSettingModel}
use Rattle.krates_units.specs.BuildTargets.{HasTarget, IsLibrary}
use Rattle.krates_units.specs.Machines.{MachineModel}
use Rattle.krates_units.specs.Sides.{GoesTo}
use Rattle.krates_units.specs.declared.kinds.Mode.TheVariants as modes
use Rattle.krates_build_tables.specs.TablesOf.{AreTables, CrateAt}
use Rattle.krates_build_tables.specs.declared.tables.CrateEntry.{CrateEntry}
use Rattle.krates_build_tables.specs.declared.tables.Link.{Link}
use Rattle.krates_build_tables.specs.declared.tables.LinkPlace.{LinkPlace}
use Rattle.krates_build_tables.specs.declared.tables.Tables.{Tables}
use Rattle.krates_build_tables.specs.declared.tables.TargetEntry.{TargetEntry}
use Rattle.krates_build_facts.specs.FactModels.{FactModel, RuleModel, Compiled, Needed}
use Rattle.krates_build_facts.specs.Meanings.{Follows, LinkMeans, PlacementMeans, PlatformMeans, UnitMeans}
use Rattle.krates_build_facts.specs.Rows.{goes_to, libraries, library, rows_of, rule, unit_of}
use Rattle.krates_build_facts.specs.declared.facts.PlacementNumber.{PlacementNumber}
use Rattle.krates_build_facts.specs.declared.facts.PlatformNumber.{PlatformNumber}
use Rattle.krates_build_facts.specs.declared.facts.UnitPlace.{UnitPlace}
use Rattle.krates_build_facts.proofs.Claims.{AreSound, HasNumbers, IsCovered, IsSound}
use Rattle.krates_build_facts.proofs.CoverRows.{by_rows, in_alone, numbers}
use Rattle.krates_build_facts.proofs.FactNumbers.{of_number}
use Rattle.krates_build_facts.proofs.Placements.{goes_number, goes_somewhere, platform_once}
use Rattle.krates_build_facts.proofs.RowLists.{Each, each_one, here, in_flat_at, in_if, in_some, rows_flat, rows_if, rows_none, rows_one, rows_some}
use Rattle.krates_build_facts.proofs.SoundRows.{by_first, gives, sound_rows}
use Rattle.krates_build_facts.proofs.TableEntries.{LinkHere, crate_here, entry_of}
use Rattle.krates_build_facts.proofs.TargetEntries.{target_at, target_of, unit_here, unit_means_there, unit_same}
use Rattle.krates_rules.proofs.OnlyOne.{place_in}

-- the library of the child, for what is placed so
pub record LibraryHere (r : Resolved) (ids : List Id) (ms : List MachineModel) (t : Tables) (child : Id) (n : PlacementNumber)
    (p : Placement) (x : TargetEntry) : Type 0 where
  pub target : TargetModel
  pub has : HasTarget r child target
  pub library : IsLibrary target
  pub at : Placement
  pub goes : GoesTo target p at
  pub unit_is : UnitMeans ids ms t (unit_of x n) (unit child target modes.Build at)

module _ (r : Resolved) (s : BuildSettingModel) (ids : List Id) (ms : List MachineModel) (t : Tables)
    (tables : AreTables r s ids ms t) where
  pub library_here : (c j : ℕ) (child : Id) (e : CrateEntry) (x : TargetEntry) (n : PlacementNumber) (p : Placement)
      → CrateAt ids c child → slice_get t.crates.items c ≡ Some e → slice_get e.targets.items j ≡ Some x
      → x.is_library ≡ true → PlacementMeans ms n p → LibraryHere r ids ms t child n p x
  library_here c j child e x n p crate entry at is placed =
      let here = crate_here r s ids ms t tables c child e crate entry in
      let target = target_of r s ids ms t tables c j child e x here at in
      let goes = goes_somewhere s ms x target.0 n p x.is_macro refl target.1.says placed in
      record {
        target = target.0;
        has = target.1.has;
        library = target.1.says.library.0 is;
        at = goes.0;
        goes = goes.1;
        unit_is = unit_means_there r s ids ms t tables c (record { krate = c; index = j }) child e x target.0 modes.Build
            (goes_to x n) goes.0 refl here target.1 goes.2;
      }

  -- the rows of all libraries are rules if each is
  pub libraries_sound : (ps : List FactModel) (l : Link) (n : PlacementNumber)
      → ((e : CrateEntry) (j : ℕ) (x : TargetEntry) → slice_get t.crates.items l.child ≡ Some e → slice_get e.targets.items j ≡ Some x
      → x.is_library ≡ true → IsSound r s ids ms t ps (Needed l.place n.platform (unit_of x n)))
      → AreSound r s ids ms t (libraries t ps l n)
  libraries_sound ps l n each =
      let P = IsSound r s ids ms t in
      rows_some P (slice_get t.crates.items l.child) (λ child. flat_map (library ps l n) child.targets.items) (λ e entry.
      rows_flat P (library ps l n) e.targets.items (λ x among.
      (let place = place_in e.targets.items x among in
      rows_if P x.is_library ps (Needed l.place n.platform (unit_of x n)) (λ is. each e place.0 x entry place.1 is))))

  in_libraries : (ps : List FactModel) (l : Link) (n : PlacementNumber) (e : CrateEntry) (j : ℕ) (x : TargetEntry)
      → slice_get t.crates.items l.child ≡ Some e → slice_get e.targets.items j ≡ Some x
      → x.is_library ≡ true → Contains (libraries t ps l n) (rule ps (Needed l.place n.platform (unit_of x n)))
  in_libraries ps l n e j x entry at is =
      let row = rule ps (Needed l.place n.platform (unit_of x n)) in
      in_some (slice_get t.crates.items l.child) e (λ child. flat_map (library ps l n) child.targets.items) row entry
      (in_flat_at (library ps l n) e.targets.items j x row at (in_if x.is_library ps (Needed l.place n.platform (unit_of x n)) is))

  -- ---- the numbers of what is needed

  -- a unit that is needed by the library's row
  pub library_row : (ps : List FactModel) (begin : FactModel) (place : LinkPlace) (e : Edge) (d : DependencyModel) (m : TargetModel)
      (n : PlacementNumber) (p at : Placement) (link : LinkHere r s ids ms t place e d) → IsLibrary m → PlacementMeans ms n p
      → GoesTo m p at → ((row : RuleModel) → Contains (libraries t ps link.link n) row → Contains (rows_of t begin) row)
      → Each (Follows t) ps
      → (from : PlatformNumber) (library : UnitPlace) → PlatformMeans ms from p.platform
      → UnitMeans ids ms t library (unit e.child m modes.Build at) → Follows t (Needed place from library)
  library_row ps begin place e d m n p at link is placed goes among each from library platform unit_is =
      let l = link.link in
      let found = unit_here r s ids ms t tables library (unit e.child m modes.Build at) unit_is in
      let child : library.target.krate ≡ l.child =
      tables.ids_once library.target.krate l.child e.child found.2.crate.crate_at link.says.child in
      let here : slice_get t.crates.items l.child ≡ Some found.0 =
      subst (λ c. slice_get t.crates.items c ≡ Some found.0) child found.2.crate.at in
      let fact = Needed l.place n.platform (unit_of found.1 n) in
      let row = in_libraries ps l n found.0 library.target.index found.1 here found.2.target.at (found.2.target.says.library.1 is) in
      let there : Follows t fact = by_rows t begin ps fact (among (rule ps fact) row) each in
      let same_platform : n.platform ≡ from = platform_once ms n.platform from p.platform tables.machines_once placed.platform platform in
      let same_unit : unit_of found.1 n ≡ library =
      unit_same r s ids ms t tables library found.1 modes.Build (goes_to found.1 n) at found.2.target.place_is found.2.mode
      found.2.placement
      (goes_number s ms found.1 m n p at found.1.is_macro refl found.2.target.says placed goes) in
      let one : Follows t (Needed place n.platform (unit_of found.1 n)) =
      subst (λ w. Follows t (Needed w n.platform (unit_of found.1 n))) link.place_is there in
      let two : Follows t (Needed place from (unit_of found.1 n)) =
      subst (λ k. Follows t (Needed place k (unit_of found.1 n))) same_platform one in
      subst (λ u. Follows t (Needed place from u)) same_unit two

  -- so what is needed has numbers
  pub needed_numbers : (place : LinkPlace) (e : Edge) (d : DependencyModel) (m : TargetModel) (n : PlacementNumber)
      (p at : Placement) → LinkHere r s ids ms t place e d → HasTarget r e.child m → PlacementMeans ms n p → GoesTo m p at
      → ((other : LinkPlace) → LinkMeans r s ids ms t other e d → (from : PlatformNumber) (library : UnitPlace)
      → PlatformMeans ms from p.platform → UnitMeans ids ms t library (unit e.child m modes.Build at)
      → Follows t (Needed other from library))
      → HasNumbers r s ids ms t (means.Needed e d p.platform (unit e.child m modes.Build at))
  needed_numbers place e d m n p at link has placed goes each =
      let l = link.link in
      let fact = means.Needed e d p.platform (unit e.child m modes.Build at) in
      let child = entry_of r s ids ms t tables l.child e.child link.says.child in
      let target = target_at r s ids ms t tables l.child e.child child.0 m child.1 has in
      let unit_is = unit_means_there r s ids ms t tables l.child
      (record { krate = l.child; index = target.0 }) e.child child.0 target.1 m modes.Build
      (goes_to target.1 n) at refl child.1 target.2
      (goes_number s ms target.1 m n p at target.1.is_macro refl target.2.says placed goes) in
      numbers r s ids ms t fact (Needed place n.platform (unit_of target.1 n))
      (e, d, p.platform, unit e.child m modes.Build at, link.means, placed.platform, unit_is, refl)
      (λ other from library other_is. each other other_is from library)

  -- ---- what is needed is compiled

  needed_sound : (place : LinkPlace) (from : PlatformNumber) (u : UnitPlace) → IsSound r s ids ms t (Needed place from u ∷ []) (Compiled u)
  needed_sound place from u = by_first r s ids ms t (Needed place from u) [] (Compiled u) (λ f is.
      gives r s ids ms t (Needed place from u ∷ []) (Compiled u) (means.Compiled is.3) (means.Needed is.0 is.1 is.2 is.3 ∷ [])
      (is.3, is.6, refl) rules.needed_library ((is.0, is.1, is.2, is.3, is.4, is.5, is.6, refl), tt))

  pub sound_needed : (place : LinkPlace) (from : PlatformNumber) (u : UnitPlace) → AreSound r s ids ms t (rows_of t (Needed place from u))
  sound_needed place from u =
      let P = IsSound r s ids ms t in
      sound_rows r s ids ms t tables (Needed place from u) (rows_one P _ _ (needed_sound place from u))
      (λ entry i crate l e d resolves link. rows_none P) (λ entry i crate. rows_none P)

  pub needed_library : (e : Edge) (d : DependencyModel) (k : Platform) (u : CompiledUnit)
      → IsCovered r s ids ms t (means.Needed e d k u ∷ []) (means.Compiled u)
  needed_library e d k u have =
      let fact = means.Needed e d k u in
      let has = have fact (inl refl) in
      let number =
      of_number r s ids ms t (λ n. (place : LinkPlace) × (from : PlatformNumber) × (library : UnitPlace)
      × LinkMeans r s ids ms t place e d × PlatformMeans ms from k × UnitMeans ids ms t library u) fact
      (λ place from library link platform is. (place, from, library, link, platform, is)) has.number has.means in
      numbers r s ids ms t (means.Compiled u) (Compiled number.2) (u, number.5, refl) (λ library is.
      (let needed = Needed number.0 number.1 library in
      by_rows t needed (needed ∷ []) (Compiled library)
      (in_alone t needed _ (here _ []))
      (each_one (Follows t) needed (has.follows needed (e, d, k, u, number.3, number.4, is, refl)))))
