-- The rows of the libraries that a unit needs.
use Rattle.std.proofs.Common.{◌≡◌, ℕ, true, ◌&&◌, List, ◌∷◌, Contains, Some, refl, sym, subst, inl, inr, slice_get, ap}
use Rattle.std.proofs.lemmas.List.Elements.{Contains-append_left}
use Rattle.krates_cm.specs.Document.{DependencyModel, TargetModel}
use Rattle.krates_rules.specs.DeclaredDependency.{declared_name}
use Rattle.krates_rules.specs.Facts.{Id, Edge}
use Rattle.krates_rules.specs.Resolved.{Resolved}
use Rattle.krates_units.specs.BuildFacts.{Fact, CompiledUnit, Placement}
use Rattle.krates_units.specs.BuildFacts as means
use Rattle.krates_units.specs.BuildRules.{IsBuiltFrom, unit}
use Rattle.krates_units.specs.BuildRules as rules
use Rattle.krates_units.specs.BuildSetting.{BuildSettingModel}
use Rattle.krates_units.specs.Machines.{MachineModel}
use Rattle.krates_units.specs.Sides.{GoesTo, HasFeaturesOf, HasKind}
use Rattle.krates_units.specs.declared.kinds.Mode.TheVariants as modes
use Rattle.krates_units.specs.declared.sides.Side.{Side}
use Rattle.krates_build_tables.specs.TablesOf.{AreTables, CrateAt}
use Rattle.krates_build_tables.specs.declared.tables.CrateEntry.{CrateEntry}
use Rattle.krates_build_tables.specs.declared.tables.Link.{Link}
use Rattle.krates_build_tables.specs.declared.tables.LinkPlace.{LinkPlace}
use Rattle.krates_build_tables.specs.declared.tables.Tables.{Tables}
use Rattle.krates_build_tables.specs.declared.tables.TargetEntry.{TargetEntry}
use Rattle.krates_build_facts.specs.FactModels.{FactModel, RuleModel, ActivatedName, Compiled, Linked, Needed}
use Rattle.krates_build_facts.specs.Meanings.{AreMeant, Follows, LinkMeans, PlatformMeans, UnitMeans}
use Rattle.krates_build_facts.specs.Rows.{features_side, has_kind, if_optional, libraries, libraries_of_target, libraries_of_unit, passes, rows_of, runs_of_unit, unit_of}
use Rattle.krates_build_facts.specs.declared.facts.PlatformNumber.{PlatformNumber}
use Rattle.krates_build_facts.specs.declared.facts.UnitPlace.{UnitPlace}
use Rattle.krates_build_facts.proofs.Claims.{AreSound, HaveNumbers, IsCovered, IsSound}
use Rattle.krates_build_facts.proofs.CoverRows.{in_link, linked_at, linked_here, optional_follows, unit_number}
use Rattle.krates_build_facts.proofs.Decisions.{features_means, features_tells, kind_means, kind_tells, passes_decides}
use Rattle.krates_build_facts.proofs.LibraryRows.{libraries_sound, library_here, library_row, needed_numbers}
use Rattle.krates_build_facts.proofs.RowLists.{Each, each_more, in_some, in_where, rows_some, rows_where, there}
use Rattle.krates_build_facts.proofs.SoundRows.{by_first, gives, optional}
use Rattle.krates_build_facts.proofs.TableEntries.{LinkHere, LinkOf, link_here}
use Rattle.krates_build_facts.proofs.TargetEntries.{UnitHere, unit_at, unit_here}
use Rattle.krates_build_facts.proofs.Tests.{both_parts, both_true}
use Rattle.krates_build_facts.proofs.UniqueMeanings.{one_at, one_id}

-- what a unit uses that needs a library over the link
abbrev pub unit_uses : Tables → UnitPlace → Link → List FactModel
unit_uses t u l = Compiled u ∷ Linked l.place ∷ if_optional l (ActivatedName u.target.krate (features_side t u.placement.side) l.name.now)

-- and by the rules
abbrev pub unit_premises : CompiledUnit → Edge → DependencyModel → Side → List Fact
unit_premises u e d n = means.Compiled u ∷ means.Linked e d ∷ rules.if_optional d (means.ActivatedName e.parent n (declared_name d))

-- a place of the unit, and the link of its crate at a place, where all follows that the unit uses
pub record UsesHere (r : Resolved) (s : BuildSettingModel) (ids : List Id) (ms : List MachineModel) (t : Tables) (u : CompiledUnit)
    (other : LinkPlace) (e : Edge) (d : DependencyModel) : Type 0 where
  pub place : UnitPlace
  pub entry : CrateEntry
  pub target : TargetEntry
  pub unit_is : UnitHere r s ids ms t place u entry target
  pub link : LinkHere r s ids ms t other e d
  pub at : slice_get entry.links.items other.index ≡ Some link.link
  pub each : Each (Follows t) (unit_uses t place link.link)

module _ (r : Resolved) (s : BuildSettingModel) (ids : List Id) (ms : List MachineModel) (t : Tables)
    (tables : AreTables r s ids ms t) where
  -- ---- the rows are rules

  -- what a unit uses means what it uses by the rules
  pub uses_meant : (u : UnitPlace) (l : Link) (e : Edge) (d : DependencyModel) → LinkOf r s ids ms t u.target.krate l e d
      → (one : CompiledUnit) → UnitMeans ids ms t u one
      → AreMeant r s ids ms t (unit_uses t u l) (unit_premises one e d (features_side t u.placement.side))
  uses_meant u l e d link one is =
      let n = features_side t u.placement.side in
      let rest = optional r s ids ms t l.is_optional d.optional (ActivatedName u.target.krate n l.name.now)
      (means.ActivatedName e.parent n (declared_name d)) link.says.optional
      (e.parent, link.parent_at, ap (means.ActivatedName e.parent n) (sym link.says.name)) in
      ((one, is, refl), ((e, d, link.means, refl), rest))

  -- so a row is a rule if it is one for the unit that is meant
  pub by_unit : (u : UnitPlace) (l : Link) (n : FactModel)
      → ((one : CompiledUnit) → UnitMeans ids ms t u one → IsSound r s ids ms t (unit_uses t u l) n) → IsSound r s ids ms t (unit_uses t u l) n
  by_unit u l n sound =
      by_first r s ids ms t (Compiled u) (Linked l.place ∷ if_optional l (ActivatedName u.target.krate (features_side t u.placement.side) l.name.now)) n
      (λ f is. sound is.0 is.1)

  one_sound : (u : UnitPlace) (p : CrateEntry) (x : TargetEntry) (l : Link) (e : Edge) (d : DependencyModel) (child : CrateEntry)
      (j : ℕ) (y : TargetEntry) → slice_get t.crates.items u.target.krate ≡ Some p → slice_get p.targets.items u.target.index ≡ Some x
      → LinkOf r s ids ms t u.target.krate l e d → has_kind x u.mode l.kind ≡ true → passes l u.placement.platform ≡ true
      → slice_get t.crates.items l.child ≡ Some child → slice_get child.targets.items j ≡ Some y → y.is_library ≡ true
      → IsSound r s ids ms t (unit_uses t u l) (Needed l.place u.placement.platform (unit_of y u.placement))
  one_sound u p x l e d child j y entry target link kind passes_there child_entry at is =
      let n = features_side t u.placement.side in
      let fact = Needed l.place u.placement.platform (unit_of y u.placement) in
      by_unit u l fact (λ one means_it.
      let platform = one.placement.platform in
      let unit_is : UnitHere r s ids ms t u one p x = unit_at r s ids ms t tables u one p x means_it entry target in
      let parent : e.parent ≡ one.krate =
      one_id ids u.target.krate e.parent one.krate link.parent_at unit_is.crate.crate_at in
      let lib = library_here r s ids ms t tables l.child j e.child child y u.placement one.placement link.says.child child_entry at is
      unit_is.placement in
      let kind_is : HasKind one.target one.mode e.kind =
      subst (λ mode. HasKind one.target mode e.kind) unit_is.mode (subst (λ kind. HasKind one.target u.mode kind) (sym link.says.kind)
      (kind_means s x one.target u.mode l.kind unit_is.target.says kind)) in
      let decides = passes_decides r s ids ms e.parent l e d u.placement.platform platform link.says unit_is.placement.platform in
      let built : IsBuiltFrom r s platform e lib.target =
      record { passes = decides.0 passes_there; has = lib.has; library = lib.library } in
      let features : HasFeaturesOf s one.placement.side n =
      subst (λ side. HasFeaturesOf s side n) unit_is.placement.side (features_means s t u.placement.side tables.first) in
      let needed = unit e.child lib.target modes.Build lib.at in
      gives r s ids ms t (unit_uses t u l) fact (means.Needed e d platform needed) (unit_premises one e d n)
      (e, d, platform, needed, link.means, unit_is.placement.platform, lib.unit_is, refl)
      (rules.library_below {u = one} {e = e} {d = d} parent kind_is built features lib.goes) (uses_meant u l e d link one means_it))

  pub libraries_of_unit_sound : (u : UnitPlace) (p : CrateEntry) (l : Link) (e : Edge) (d : DependencyModel)
      → slice_get t.crates.items u.target.krate ≡ Some p → LinkOf r s ids ms t u.target.krate l e d
      → AreSound r s ids ms t (libraries_of_unit t p u l)
  libraries_of_unit_sound u p l e d entry link =
      let P = IsSound r s ids ms t in
      rows_some P (slice_get p.targets.items u.target.index) (libraries_of_target t u l) (λ x target.
      rows_where P (has_kind x u.mode l.kind && passes l u.placement.platform) (libraries t (unit_uses t u l) l u.placement) (λ both.
      (let parts = both_parts (has_kind x u.mode l.kind) (passes l u.placement.platform) both in
      libraries_sound r s ids ms t tables (unit_uses t u l) l u.placement (λ child j y child_entry at is.
      one_sound u p x l e d child j y entry target link parts.0 parts.1 child_entry at is))))

  -- ---- what the rules need is so by rows

  among_rows : (u : UnitPlace) (e : CrateEntry) (x : TargetEntry) (k : ℕ) (l : Link) (row : RuleModel)
      → slice_get t.crates.items u.target.krate ≡ Some e → slice_get e.targets.items u.target.index ≡ Some x
      → slice_get e.links.items k ≡ Some l → has_kind x u.mode l.kind ≡ true → passes l u.placement.platform ≡ true
      → Contains (libraries t (unit_uses t u l) l u.placement) row → Contains (rows_of t (Compiled u)) row
  among_rows u e x k l row entry target at kind passes_there there =
      in_link t (Compiled u) e k l row entry at
      (Contains-append_left (libraries_of_unit t e u l) (runs_of_unit t e u l) row
      (in_some (slice_get e.targets.items u.target.index) x (libraries_of_target t u l) row target
      (in_where (has_kind x u.mode l.kind && passes l u.placement.platform) (libraries t (unit_uses t u l) l u.placement) row
      (both_true (has_kind x u.mode l.kind) (passes l u.placement.platform) kind passes_there) there)))

  -- what a unit uses follows over each link of the dependency
  pub uses_follow : (u : CompiledUnit) (e : Edge) (d : DependencyModel) (n : Side) → e.parent ≡ u.krate
      → HasFeaturesOf s u.placement.side n → HaveNumbers r s ids ms t (unit_premises u e d n)
      → (other : LinkPlace) → LinkMeans r s ids ms t other e d → UsesHere r s ids ms t u other e d
  uses_follow u e d n parent features have other is =
      let compiled = unit_number r s ids ms t u (have (means.Compiled u) (inl refl)) in
      let linked = have (means.Linked e d) (inr (inl refl)) in
      let place = compiled.0 in
      let found = unit_here r s ids ms t tables place u compiled.1 in
      let p = found.0 in
      let unit_is = found.2 in
      let link = link_here r s ids ms t tables other e d is in
      let l = link.link in
      let number : other.krate ≡ place.target.krate =
      tables.ids_once other.krate place.target.krate u.krate (subst (CrateAt ids other.krate) parent link.crate.crate_at)
      unit_is.crate.crate_at in
      let entry : link.entry ≡ p = one_at (slice_get t.crates.items place.target.krate) link.entry p
      (subst (λ c. slice_get t.crates.items c ≡ Some link.entry) number link.crate.at) unit_is.crate.at in
      let side = features_side t place.placement.side in
      let side_is : n ≡ side = features_tells s t place.placement.side n tables.first
      (subst (λ side. HasFeaturesOf s side n) (sym unit_is.placement.side) features) in
      let named = ActivatedName place.target.krate side l.name.now in
      let name_fact = means.ActivatedName e.parent n (declared_name d) in
      let crate : CrateAt ids place.target.krate e.parent = subst (λ c. CrateAt ids c e.parent) number link.crate.crate_at in
      let fact_is : name_fact ≡ means.ActivatedName e.parent side l.name.now = cc (side_is, link.says.name) in
      let turned_on = optional_follows r s ids ms t l.is_optional d.optional named name_fact link.says.optional
      (λ g among. have g (inr (inr among)))
      (λ h. h.follows named (e.parent, crate, fact_is)) in
      record {
        place = place;
        entry = p;
        target = found.1;
        unit_is = unit_is;
        link = link;
        at = subst (λ p. slice_get p.links.items other.index ≡ Some l) entry link.at;
        each = each_more (Follows t) (Compiled place) (Linked l.place ∷ if_optional l named) compiled.2
            (each_more (Follows t) (Linked l.place) (if_optional l named) (linked_at r s ids ms t other e d linked link) turned_on);
      }

  -- and so does that a library is needed
  need_follows : (u : CompiledUnit) (e : Edge) (d : DependencyModel) (m : TargetModel) (n : Side) (at : Placement)
      → e.parent ≡ u.krate → HasKind u.target u.mode e.kind → IsBuiltFrom r s u.placement.platform e m
      → HasFeaturesOf s u.placement.side n → GoesTo m u.placement at → HaveNumbers r s ids ms t (unit_premises u e d n)
      → (other : LinkPlace) → LinkMeans r s ids ms t other e d → (from : PlatformNumber) (library : UnitPlace)
      → PlatformMeans ms from u.placement.platform → UnitMeans ids ms t library (unit e.child m modes.Build at)
      → Follows t (Needed other from library)
  need_follows u e d m n at parent kind built features goes have other is from library =
      let uses = uses_follow u e d n parent features have other is in
      let place = uses.place in
      let unit_is = uses.unit_is in
      let l = uses.link.link in
      let kind_first : HasKind u.target place.mode l.kind =
      subst (λ mode. HasKind u.target mode l.kind) (sym unit_is.mode)
      (subst (λ kind. HasKind u.target u.mode kind) uses.link.says.kind kind) in
      let kind_holds = kind_tells s uses.target u.target place.mode l.kind unit_is.target.says kind_first in
      let decides = passes_decides r s ids ms e.parent l e d place.placement.platform u.placement.platform uses.link.says
      unit_is.placement.platform in
      library_row r s ids ms t tables (unit_uses t place l) (Compiled place) other e d m place.placement u.placement at uses.link
      built.library unit_is.placement goes
      (λ row. among_rows place uses.entry uses.target other.index l row unit_is.crate.at unit_is.target.at uses.at kind_holds
      (decides.1 built.passes)) uses.each from library

  pub library_below : (u : CompiledUnit) (e : Edge) (d : DependencyModel) (l : TargetModel) (n : Side) (at : Placement)
      → e.parent ≡ u.krate → HasKind u.target u.mode e.kind → IsBuiltFrom r s u.placement.platform e l
      → HasFeaturesOf s u.placement.side n → GoesTo l u.placement at
      → IsCovered r s ids ms t (unit_premises u e d n) (means.Needed e d u.placement.platform (unit e.child l modes.Build at))
  library_below u e d m n at parent kind built features goes have =
      let compiled = unit_number r s ids ms t u (have (means.Compiled u) (inl refl)) in
      let link = linked_here r s ids ms t tables e d (have (means.Linked e d) (inr (inl refl))) in
      needed_numbers r s ids ms t tables link.0 e d m compiled.0.placement u.placement at link.1 built.has compiled.1.placement goes
      (need_follows u e d m n at parent kind built features goes have)
