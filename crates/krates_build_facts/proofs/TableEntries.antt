-- What the tables say of crates, of links and of what is lacking, by number and by place.
use Rattle.std.proofs.Common.{◌≡◌, ℕ, zero, suc, List, [], ◌∷◌, Some, length, refl, sym, ap, ◌∙◌, subst, arith}
use Rattle.std.proofs.lemmas.List.{length-map}
use Rattle.std.specs.List.{Contains, slice_get}
use Rattle.krates_cm.specs.Document.{DependencyModel}
use Rattle.krates_rules.specs.Facts.{Id, Edge}
use Rattle.krates_rules.specs.Resolved.{Resolved}
use Rattle.krates_rules.proofs.OnlyOne.{place_in}
use Rattle.krates_units.specs.BuildSetting.{BuildSettingModel}
use Rattle.krates_units.specs.Machines.{MachineModel, machine_view}
use Rattle.krates_units.specs.Resolves.{LacksEdge, Resolves}
use Rattle.krates_build_tables.specs.TablesOf.{AreTables, CrateAt, CrateSays, LackingSays, LinkSays}
use Rattle.krates_build_tables.specs.declared.tables.CrateEntry.{CrateEntry}
use Rattle.krates_build_tables.specs.declared.tables.Lacking.{Lacking}
use Rattle.krates_build_tables.specs.declared.tables.Link.{Link}
use Rattle.krates_build_tables.specs.declared.tables.LinkPlace.{LinkPlace}
use Rattle.krates_build_tables.specs.declared.tables.Tables.{Tables}
use Rattle.krates_build_facts.specs.InitialRows.{machine_count}
use Rattle.krates_build_facts.specs.Meanings.{LackingMeans, LinkMeans}

-- ---- what there is

pub machine_count_is : {r : Resolved} {s : BuildSettingModel} {ids : List Id} {ms : List MachineModel} {t : Tables} → AreTables r s ids ms t → machine_count t ≡ length ms
machine_count_is {r} {s} {ids} {ms} {t} tables = sym (length-map t.machines.items (λ m. machine_view m.now)) ∙ ap length tables.machines_told

-- the crate with its entry, by number
pub record CrateHere (r : Resolved) (s : BuildSettingModel) (ids : List Id) (ms : List MachineModel) (t : Tables) (c : ℕ) (i : Id)
    (e : CrateEntry) : Type 0 where
  pub crate_at : CrateAt ids c i
  pub at : slice_get t.crates.items c ≡ Some e
  pub says : CrateSays r s ids ms c i e

-- the link is of this edge and dependency, and its place means them
pub record LinkOf (r : Resolved) (s : BuildSettingModel) (ids : List Id) (ms : List MachineModel) (t : Tables) (c : ℕ) (l : Link)
    (e : Edge) (d : DependencyModel) : Type 0 where
  pub parent_at : CrateAt ids c e.parent
  pub says : LinkSays r s ids ms e.parent l e d
  pub means : LinkMeans r s ids ms t l.place e d

-- the link at a place, of an edge and a dependency
pub record LinkHere (r : Resolved) (s : BuildSettingModel) (ids : List Id) (ms : List MachineModel) (t : Tables) (place : LinkPlace)
    (e : Edge) (d : DependencyModel) : Type 0 where
  pub means : LinkMeans r s ids ms t place e d
  pub entry : CrateEntry
  pub crate : CrateHere r s ids ms t place.krate e.parent entry
  pub link : Link
  pub at : slice_get entry.links.items place.index ≡ Some link
  pub says : LinkSays r s ids ms e.parent link e d
  pub place_is : link.place ≡ place

-- what is lacking is of this dependency, and its place means it
pub record LackingOf (ids : List Id) (t : Tables) (i : Id) (x : Lacking) (d : DependencyModel) : Type 0 where
  pub says : LackingSays x d
  pub means : LackingMeans ids t x.krate x.index i d

-- what is lacking at a place, of a dependency
pub record LackingHere (r : Resolved) (s : BuildSettingModel) (ids : List Id) (ms : List MachineModel) (t : Tables) (c index : ℕ) (i : Id)
    (d : DependencyModel) : Type 0 where
  pub entry : CrateEntry
  pub crate : CrateHere r s ids ms t c i entry
  pub lacking : Lacking
  pub at : slice_get entry.lacking.items index ≡ Some lacking
  pub says : LackingSays lacking d
  pub krate : lacking.krate ≡ c
  pub index_is : lacking.index ≡ index

-- a list that is as long has an element at the place
pub beside : {A B : Type 0} (xs : List A) (ys : List B) (k : ℕ) (y : B) → length xs ≡ length ys → slice_get ys k ≡ Some y
    → (x : A) × (slice_get xs k ≡ Some x)
beside [] [] k y long at = absurd cc
beside [] (z ∷ ys) k y long at = absurd (omega arith)
beside (x ∷ xs) [] k y long at = absurd (omega arith)
beside (x ∷ xs) (z ∷ ys) zero y long at = (x, refl)
beside (x ∷ xs) (z ∷ ys) (suc k) y long at = beside xs ys k y (omega arith) at

module _ (r : Resolved) (s : BuildSettingModel) (ids : List Id) (ms : List MachineModel) (t : Tables)
    (tables : AreTables r s ids ms t) where
  -- ---- crates

  pub crate_here : (c : ℕ) (i : Id) (e : CrateEntry) → CrateAt ids c i → slice_get t.crates.items c ≡ Some e → CrateHere r s ids ms t c i e
  crate_here c i e crate at = record { crate_at = crate; at = at; says = tables.each c i e crate at }

  -- a number with an entry is that of a crate
  pub crate_of : (c : ℕ) (e : CrateEntry) → slice_get t.crates.items c ≡ Some e → (i : Id) × CrateHere r s ids ms t c i e
  crate_of c e at = let id = beside ids t.crates.items c e (sym tables.long) at in (id.0, crate_here c id.0 e id.1 at)

  -- a crate has an entry
  pub entry_of : (c : ℕ) (i : Id) → CrateAt ids c i → (e : CrateEntry) × CrateHere r s ids ms t c i e
  entry_of c i crate =
      let entry = beside t.crates.items ids c i tables.long crate in (entry.0, crate_here c i entry.0 crate entry.1)

  -- ---- links

  -- what the link at a place means
  pub link_means : (place : LinkPlace) (i : Id) (e : CrateEntry) → CrateHere r s ids ms t place.krate i e → (l : Link)
      → slice_get e.links.items place.index ≡ Some l → (edge : Edge) (d : DependencyModel) → LinkSays r s ids ms i l edge d
      → LinkMeans r s ids ms t place edge d
  link_means place i e crate l at edge d says =
      record { id = i; entry = e; entry_at = record { crate_at = crate.crate_at; at = crate.at }; link = l; at = at; says = says }

  -- and what its own place means
  link_at : (c : ℕ) (i : Id) (e : CrateEntry) → CrateHere r s ids ms t c i e → (k : ℕ) (l : Link) → slice_get e.links.items k ≡ Some l
      → (edge : Edge) (d : DependencyModel) → LinkSays r s ids ms i l edge d → LinkOf r s ids ms t c l edge d
  link_at c i e crate k l at edge d says =
      let place : l.place ≡ record { krate = c; index = k } = crate.says.links.places k l at in
      let here = link_means (record { krate = c; index = k }) i e crate l at edge d says in
      record {
        parent_at = subst (CrateAt ids c) (sym says.parent) crate.crate_at;
        says = subst (λ (j : Id). LinkSays r s ids ms j l edge d) (sym says.parent) says;
        means = subst (λ (p : LinkPlace). LinkMeans r s ids ms t p edge d) (sym place) here;
      }

  -- a link of the crate
  pub link_of : (c : ℕ) (i : Id) (e : CrateEntry) → CrateHere r s ids ms t c i e → (l : Link) → Contains e.links.items l
      → (edge : Edge) × (d : DependencyModel) × Resolves r edge d × LinkOf r s ids ms t c l edge d
  link_of c i e crate l among =
      let at = place_in e.links.items l among in
      let is = crate.says.links.each at.0 l at.1 in
      (is.edge, is.dep, is.resolves, link_at c i e crate at.0 l at.1 is.edge is.dep is.says)

  -- the link at a place that means this
  pub link_here : (place : LinkPlace) (e : Edge) (d : DependencyModel) → LinkMeans r s ids ms t place e d
      → LinkHere r s ids ms t place e d
  link_here place e d is =
      let number = subst (CrateAt ids place.krate) (sym is.says.parent) is.entry_at.crate_at in
      let crate = crate_here place.krate e.parent is.entry number is.entry_at.at in
      record {
        means = is;
        entry = is.entry;
        crate = crate;
        link = is.link;
        at = is.at;
        says = subst (λ (i : Id). LinkSays r s ids ms i is.link e d) (sym is.says.parent) is.says;
        place_is = crate.says.links.places place.index is.link is.at;
      }

  -- the link of what is resolved
  pub link_resolved : (e : Edge) (d : DependencyModel) → Resolves r e d → (place : LinkPlace) × LinkHere r s ids ms t place e d
  link_resolved e d resolves =
      let number = tables.packages e.parent resolves.declared.pkg resolves.declared.has_package in
      let crate = entry_of number.0 e.parent number.1 in
      let link = crate.1.says.links.all e d resolves refl in
      let place : LinkPlace = record { krate = number.0; index = link.0 } in
      (place, link_here place e d (link_means place e.parent crate.0 crate.1 link.1 link.2 e d link.3))

  -- ---- what is lacking

  pub lacking_of : (c : ℕ) (i : Id) (e : CrateEntry) → CrateHere r s ids ms t c i e → (x : Lacking) → Contains e.lacking.items x
      → (d : DependencyModel) × LacksEdge r i d × LackingOf ids t i x d
  lacking_of c i e crate x among =
      let at = place_in e.lacking.items x among in
      let is = crate.says.lacking.each at.0 x at.1 in
      let places = crate.says.lacking.places at.0 x at.1 in
      let here : LackingMeans ids t c at.0 i is.0 = record {
        entry = e;
        entry_at = record { crate_at = crate.crate_at; at = crate.at };
        lacking = x;
        at = at.1;
        declared = is.2.declared;
      } in (
        is.0,
        is.1,
        record {
          says = is.2;
          means = subst (λ (n : ℕ). LackingMeans ids t n x.index i is.0) (sym places.0)
              (subst (λ (n : ℕ). LackingMeans ids t c n i is.0) (sym places.1) here);
        },
      )

  pub lacking_here : (c index : ℕ) (i : Id) (d : DependencyModel) → LackingMeans ids t c index i d → LackingHere r s ids ms t c index i d
  lacking_here c index i d is =
      let crate = crate_here c i is.entry is.entry_at.crate_at is.entry_at.at in
      let each = crate.says.lacking.each index is.lacking is.at in
      let places = crate.says.lacking.places index is.lacking is.at in
      record {
        entry = is.entry;
        crate = crate;
        lacking = is.lacking;
        at = is.at;
        says = subst (LackingSays is.lacking) (sym each.2.declared ∙ is.declared) each.2;
        krate = places.0;
        index_is = places.1;
      }
