-- The rows of runs of build scripts, and of the libraries that build scripts need.
use Rattle.std.proofs.Common.{◌≡◌, ℕ, Bool, true, false, ◌&&◌, List, [], ◌∷◌, Contains, Some, refl, sym, ap, ◌∙◌, subst, inl, inr, slice_get}
use Rattle.krates_cm.specs.Document.{DependencyModel, TargetModel}
use Rattle.krates_cm.specs.declared.dependency.DependencyKind.{DependencyKind}
use Rattle.krates_cm.specs.declared.dependency.DependencyKind.TheVariants.{Normal, Development, Build}
use Rattle.krates_rules.specs.DeclaredDependency.{declared_name}
use Rattle.krates_rules.specs.Facts.{Id, Edge}
use Rattle.krates_rules.specs.Resolved.{Resolved}
use Rattle.krates_units.specs.BuildFacts.{Fact, Placement, host}
use Rattle.krates_units.specs.BuildFacts as means
use Rattle.krates_units.specs.BuildRules.{IsBuiltFrom, unit}
use Rattle.krates_units.specs.BuildRules as rules
use Rattle.krates_units.specs.BuildSetting.{BuildSettingModel}
use Rattle.krates_units.specs.Machines.{MachineModel}
use Rattle.krates_units.specs.Sides.{GoesTo, to_host, along, HasFeaturesOf, host_placement}
use Rattle.krates_units.specs.declared.kinds.Mode.TheVariants as modes
use Rattle.krates_units.specs.declared.sides.Side.{Side}
use Rattle.krates_build_tables.specs.TablesOf.{AreTables, CrateAt, TargetSays}
use Rattle.krates_build_tables.specs.declared.tables.CrateEntry.{CrateEntry}
use Rattle.krates_build_tables.specs.declared.tables.Link.{Link}
use Rattle.krates_build_tables.specs.declared.tables.LinkPlace.{LinkPlace}
use Rattle.krates_build_tables.specs.declared.tables.Tables.{Tables}
use Rattle.krates_build_tables.specs.declared.tables.TargetEntry.{TargetEntry}
use Rattle.krates_build_facts.specs.FactModels.{FactModel, RuleModel, ActivatedName, Linked, Needed, ScriptCompiled, ScriptRun}
use Rattle.krates_build_facts.specs.Meanings.{Follows, LinkMeans, PlacementMeans, PlatformMeans, UnitMeans}
use Rattle.krates_build_facts.specs.Rows.{features_side, host_place, if_optional, is_build, libraries, rows_of, unit_of}
use Rattle.krates_build_facts.specs.declared.facts.PlacementNumber.{PlacementNumber}
use Rattle.krates_build_facts.specs.declared.facts.PlatformNumber.{PlatformNumber}
use Rattle.krates_build_facts.specs.declared.facts.PlatformNumber.TheVariants as platforms
use Rattle.krates_build_facts.specs.declared.facts.UnitPlace.{UnitPlace}
use Rattle.krates_build_facts.proofs.Claims.{AreSound, HaveNumbers, IsCovered, IsSound}
use Rattle.krates_build_facts.proofs.CoverRows.{by_rows, in_alone, in_link, linked_at, linked_here, numbers, optional_follows}
use Rattle.krates_build_facts.proofs.Decisions.{features_means, features_tells}
use Rattle.krates_build_facts.proofs.FactNumbers.{of_number}
use Rattle.krates_build_facts.proofs.LibraryRows.{libraries_sound, library_here, library_row, needed_numbers}
use Rattle.krates_build_facts.proofs.Placements.{at_host}
use Rattle.krates_build_facts.proofs.RowLists.{Each, each_more, each_one, here, in_where, rows_none, rows_one, rows_where, there}
use Rattle.krates_build_facts.proofs.SoundRows.{by_first, gives, optional, sound_rows}
use Rattle.krates_build_facts.proofs.TableEntries.{LinkHere, LinkOf, entry_of, link_here}
use Rattle.krates_build_facts.proofs.TargetEntries.{target_at}
use Rattle.krates_build_facts.proofs.Tests.{both_parts, both_true}

-- what a build script uses that needs a library over the link
abbrev pub script_uses : Tables → ℕ → Side → Link → List FactModel
script_uses t c n l = ScriptCompiled c n ∷ Linked l.place ∷ if_optional l (ActivatedName c (features_side t n) l.name.now)

-- and by the rules
abbrev pub script_premises : Edge → DependencyModel → (m n : Side) → List Fact
script_premises e d m n =
    means.ScriptCompiled e.parent m ∷ means.Linked e d ∷ rules.if_optional d (means.ActivatedName e.parent n (declared_name d))

build_kind : (kind : DependencyKind) → is_build kind ≡ true → kind ≡ Build
build_kind Normal is = absurd cc
build_kind Development is = absurd cc
build_kind Build is = refl

kind_is_build : (kind : DependencyKind) → kind ≡ Build → is_build kind ≡ true
kind_is_build kind is = rw is refl

-- what is for the host stays there
host_stays : (t : TargetModel) (at : Placement) → GoesTo t host_placement at → at ≡ host_placement
host_stays t at (to_host is) = refl
host_stays t at (along other) = refl

goes_to_host : (s : BuildSettingModel) (x : TargetEntry) (t : TargetModel) (b : Bool) → x.is_macro ≡ b → TargetSays s x t
    → GoesTo t host_placement host_placement
goes_to_host s x t true is says = to_host (says.is_macro.0 is)
goes_to_host s x t false is says = along (λ m. absurd (let yes : x.is_macro ≡ true = says.is_macro.1 m in cc))

module _ (r : Resolved) (s : BuildSettingModel) (ids : List Id) (ms : List MachineModel) (t : Tables)
    (tables : AreTables r s ids ms t) where
  -- ---- runs

  run_sound : (c : ℕ) (at : PlacementNumber) → IsSound r s ids ms t (ScriptRun c at ∷ []) (ScriptCompiled c at.side)
  run_sound c at = by_first r s ids ms t (ScriptRun c at) [] (ScriptCompiled c at.side) (λ f is.
      gives r s ids ms t (ScriptRun c at ∷ []) (ScriptCompiled c at.side) (means.ScriptCompiled is.0 is.1.side)
      (means.ScriptRun is.0 is.1 ∷ []) (is.0, is.2, ap (means.ScriptCompiled is.0) (sym is.3.side))
      (rules.script_compiled {p = is.0} {at = is.1}) ((is.0, is.1, is.2, is.3, refl), tt))

  pub sound_script_run : (c : ℕ) (at : PlacementNumber) → AreSound r s ids ms t (rows_of t (ScriptRun c at))
  sound_script_run c at =
      let P = IsSound r s ids ms t in
      sound_rows r s ids ms t tables (ScriptRun c at) (rows_one P _ _ (run_sound c at))
      (λ entry i crate l e d resolves link. rows_none P) (λ entry i crate. rows_none P)

  pub script_compiled : (p : Id) (at : Placement) → IsCovered r s ids ms t (means.ScriptRun p at ∷ []) (means.ScriptCompiled p at.side)
  script_compiled p at have =
      let run = means.ScriptRun p at in
      let fact = means.ScriptCompiled p at.side in
      let has = have run (inl refl) in
      let number = of_number r s ids ms t (λ n. (c : ℕ) × (w : PlacementNumber) × CrateAt ids c p × PlacementMeans ms w at) run
      (λ c w crate placed. (c, w, crate, placed)) has.number has.means in
      numbers r s ids ms t fact (ScriptCompiled number.0 at.side) (p, number.2, refl) (λ c crate.
      (let w = number.1 in
      let first = ScriptRun c w in
      let there : Follows t (ScriptCompiled c w.side) =
      by_rows t first (first ∷ []) (ScriptCompiled c w.side)
      (in_alone t first _ (here _ []))
      (each_one (Follows t) first (has.follows first (p, at, crate, number.3, refl))) in
      subst (λ n. Follows t (ScriptCompiled c n)) number.3.side there))

  -- ---- the rows of what is needed are rules

  one_sound : (c : ℕ) (n : Side) (l : Link) (e : Edge) (d : DependencyModel) (child : CrateEntry) (j : ℕ) (y : TargetEntry)
      → LinkOf r s ids ms t c l e d → is_build l.kind ≡ true → l.passes_on_host ≡ true
      → slice_get t.crates.items l.child ≡ Some child → slice_get child.targets.items j ≡ Some y → y.is_library ≡ true
      → IsSound r s ids ms t (script_uses t c n l) (Needed l.place platforms.Host (unit_of y host_place))
  one_sound c n l e d child j y link kind passes_there entry at is =
      let side = features_side t n in
      let lib = library_here r s ids ms t tables l.child j e.child child y host_place host_placement link.says.child entry at is
      (at_host ms) in
      let stays : lib.at ≡ host_placement = host_stays lib.target lib.at lib.goes in
      let needed = unit e.child lib.target modes.Build host_placement in
      let unit_is : UnitMeans ids ms t (unit_of y host_place) needed =
      subst (λ p. UnitMeans ids ms t (unit_of y host_place) (unit e.child lib.target modes.Build p)) stays lib.unit_is in
      let built : IsBuiltFrom r s host e lib.target =
      record { passes = link.says.host.0 passes_there; has = lib.has; library = lib.library } in
      let rest = optional r s ids ms t l.is_optional d.optional (ActivatedName c side l.name.now)
      (means.ActivatedName e.parent side (declared_name d)) link.says.optional
      (e.parent, link.parent_at, ap (means.ActivatedName e.parent side) (sym link.says.name)) in
      gives r s ids ms t (script_uses t c n l) (Needed l.place platforms.Host (unit_of y host_place)) (means.Needed e d host needed)
      (script_premises e d n side) (e, d, host, needed, link.means, refl, unit_is, refl)
      (rules.script_below {e = e} {d = d} (link.says.kind ∙ build_kind l.kind kind) built (features_means s t n tables.first))
      ((e.parent, link.parent_at, refl), ((e, d, link.means, refl), rest))

  pub sound_script_compiled : (c : ℕ) (n : Side) → AreSound r s ids ms t (rows_of t (ScriptCompiled c n))
  sound_script_compiled c n =
      let P = IsSound r s ids ms t in
      sound_rows r s ids ms t tables (ScriptCompiled c n) (rows_none P) (λ entry i crate l e d resolves link.
      rows_where P (is_build l.kind && l.passes_on_host) (libraries t (script_uses t c n l) l host_place) (λ both.
      (let parts = both_parts (is_build l.kind) l.passes_on_host both in
      libraries_sound r s ids ms t tables (script_uses t c n l) l host_place (λ child j y there at is.
      one_sound c n l e d child j y link parts.0 parts.1 there at is))))
      (λ entry i crate. rows_none P)

  -- ---- what the rules need is so by rows

  among_rows : (c : ℕ) (n : Side) (e : CrateEntry) (k : ℕ) (l : Link) (row : RuleModel) → slice_get t.crates.items c ≡ Some e
      → slice_get e.links.items k ≡ Some l
      → is_build l.kind ≡ true → l.passes_on_host ≡ true → Contains (libraries t (script_uses t c n l) l host_place) row
      → Contains (rows_of t (ScriptCompiled c n)) row
  among_rows c n e k l row entry at kind passes_there there =
      in_link t (ScriptCompiled c n) e k l row entry at
      (in_where (is_build l.kind && l.passes_on_host) (libraries t (script_uses t c n l) l host_place) row
      (both_true (is_build l.kind) l.passes_on_host kind passes_there) there)

  -- a build script's libraries are for the host, whether they are macros or not
  goes_there : (e : Edge) (d : DependencyModel) (target : TargetModel) (place : LinkPlace) → IsBuiltFrom r s host e target
      → LinkHere r s ids ms t place e d → GoesTo target host_placement host_placement
  goes_there e d target place built link =
      let child = entry_of r s ids ms t tables link.link.child e.child link.says.child in
      let there = target_at r s ids ms t tables link.link.child e.child child.0 target child.1 built.has in
      goes_to_host s there.1 target there.1.is_macro refl there.2.says

  -- that a library is needed follows over each link of the dependency
  need_follows : (e : Edge) (d : DependencyModel) (target : TargetModel) (m n : Side) → e.kind ≡ Build → IsBuiltFrom r s host e target
      → HasFeaturesOf s m n → HaveNumbers r s ids ms t (script_premises e d m n)
      → (place : LinkPlace) → LinkMeans r s ids ms t place e d → (from : PlatformNumber) (library : UnitPlace)
      → PlatformMeans ms from host → UnitMeans ids ms t library (unit e.child target modes.Build host_placement)
      → Follows t (Needed place from library)
  need_follows e d target m n kind built features have place is from library =
      let link = link_here r s ids ms t tables place e d is in
      let l = link.link in
      let c = place.krate in
      let script = ScriptCompiled c m in
      let name_fact = means.ActivatedName e.parent n (declared_name d) in
      let compiled = have (means.ScriptCompiled e.parent m) (inl refl) in
      let linked = have (means.Linked e d) (inr (inl refl)) in
      let side = features_side t m in
      let side_is : n ≡ side = features_tells s t m n tables.first features in
      let named = ActivatedName c side l.name.now in
      let fact_is : name_fact ≡ means.ActivatedName e.parent side l.name.now = cc (side_is, link.says.name) in
      let turned_on = optional_follows r s ids ms t l.is_optional d.optional named name_fact link.says.optional
      (λ g among. have g (inr (inr among)))
      (λ h. h.follows named (e.parent, link.crate.crate_at, fact_is)) in
      let premises : Each (Follows t) (script_uses t c m l) =
      each_more (Follows t) script (Linked l.place ∷ if_optional l named) (compiled.follows script (e.parent, link.crate.crate_at, refl))
      (each_more (Follows t) (Linked l.place) (if_optional l named) (linked_at r s ids ms t place e d linked link) turned_on) in
      let build_it : is_build l.kind ≡ true = kind_is_build l.kind (sym link.says.kind ∙ kind) in
      library_row r s ids ms t tables (script_uses t c m l) script place e d target host_place host_placement host_placement link
      built.library (at_host ms) (goes_there e d target place built link)
      (λ row. among_rows c m link.entry place.index l row link.crate.at link.at build_it (link.says.host.1 built.passes)) premises
      from library

  pub script_below : (e : Edge) (d : DependencyModel) (l : TargetModel) (m n : Side) → e.kind ≡ Build → IsBuiltFrom r s host e l
      → HasFeaturesOf s m n
      → IsCovered r s ids ms t (script_premises e d m n) (means.Needed e d host (unit e.child l modes.Build host_placement))
  script_below e d target m n kind built features have =
      let link = linked_here r s ids ms t tables e d (have (means.Linked e d) (inr (inl refl))) in
      needed_numbers r s ids ms t tables link.0 e d target host_place host_placement host_placement link.1 built.has (at_host ms)
      (goes_there e d target link.0 built link.1) (need_follows e d target m n kind built features have)
