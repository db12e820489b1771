-- What is derivable follows by rows: by a row of a fact, by its premises, and by what the numbers of facts say of the tables.
use Rattle.std.proofs.Common.{◌≡◌, ℕ, List, [], ◌∷◌, Some, Bool, true, false, if◌then◌else◌, refl, sym, subst, inl, inr}
use Rattle.std.specs.List.{Contains, flat_map, slice_get}
use Rattle.std.proofs.lemmas.List.Elements.{Contains-append_left, Contains-append_right}
use Rattle.krates_cm.specs.Document.{DependencyModel}
use Rattle.krates_rules.specs.Facts.{Edge, Id}
use Rattle.krates_rules.specs.Resolved.{Resolved}
use Rattle.krates_units.specs.BuildFacts.{CompiledUnit, Fact}
use Rattle.krates_units.specs.BuildFacts as means
use Rattle.krates_units.specs.BuildSetting.{BuildSettingModel}
use Rattle.krates_units.specs.Machines.{MachineModel}
use Rattle.krates_build_tables.specs.TablesOf.{AreTables}
use Rattle.krates_build_tables.specs.declared.tables.CrateEntry.{CrateEntry}
use Rattle.krates_build_tables.specs.declared.tables.Link.{Link}
use Rattle.krates_build_tables.specs.declared.tables.LinkPlace.{LinkPlace}
use Rattle.krates_build_tables.specs.declared.tables.Tables.{Tables}
use Rattle.krates_build_facts.specs.FactModels.{Compiled, FactModel, Linked, RuleModel}
use Rattle.krates_build_facts.specs.InitialRows.{initial_rows}
use Rattle.krates_build_facts.specs.Meanings.{Follows, Means, UnitMeans, by_row}
use Rattle.krates_build_facts.specs.Rows.{entry_rows, home, link_rows, rows_alone, rows_in, rows_of, rule}
use Rattle.krates_build_facts.specs.declared.facts.UnitPlace.{UnitPlace}
use Rattle.krates_build_facts.proofs.Claims.{HasNumbers, HaveNumbers}
use Rattle.krates_build_facts.proofs.FactNumbers.{OfNumbers, of_number}
use Rattle.krates_build_facts.proofs.RowLists.{Each, each_none, each_one, here, in_flat_at, in_some}
use Rattle.krates_build_facts.proofs.TableEntries.{LinkHere, link_here}

-- ---- rows of a fact

module _ (t : Tables) where
  pub by_rows : (begin : FactModel) (ps : List FactModel) (n : FactModel) → Contains (rows_of t begin) (rule ps n) → Each (Follows t) ps
      → Follows t n
  by_rows begin ps n c below = by_row (inr (begin, c)) below

  pub by_initial : (ps : List FactModel) (n : FactModel) → Contains (initial_rows t) (rule ps n) → Each (Follows t) ps → Follows t n
  by_initial ps n c below = by_row (inl c) below

  pub in_alone : (f : FactModel) (row : RuleModel) → Contains (rows_alone f) row → Contains (rows_of t f) row
  in_alone f row c = Contains-append_left (rows_alone f) _ row c

  in_crate : (f : FactModel) (e : CrateEntry) (row : RuleModel) → slice_get t.crates.items (home f) ≡ Some e → Contains (rows_in t f e) row
      → Contains (rows_of t f) row
  in_crate f e row at c = Contains-append_right (rows_alone f) _ row (in_some (slice_get t.crates.items (home f)) e (rows_in t f) row at c)

  pub in_link : (f : FactModel) (e : CrateEntry) (k : ℕ) (l : Link) (row : RuleModel) → slice_get t.crates.items (home f) ≡ Some e
      → slice_get e.links.items k ≡ Some l
      → Contains (link_rows t e f l) row → Contains (rows_of t f) row
  in_link f e k l row at here c =
      in_crate f e row at
      (Contains-append_left (flat_map (link_rows t e f) e.links.items) (entry_rows t e f) row
      (in_flat_at (link_rows t e f) e.links.items k l row here c))

  pub in_entry : (f : FactModel) (e : CrateEntry) (row : RuleModel) → slice_get t.crates.items (home f) ≡ Some e
      → Contains (entry_rows t e f) row → Contains (rows_of t f) row
  in_entry f e row at c = in_crate f e row at (Contains-append_right (flat_map (link_rows t e f) e.links.items) (entry_rows t e f) row c)

-- ---- numbers of facts

module _ (r : Resolved) (s : BuildSettingModel) (ids : List Id) (ms : List MachineModel) (t : Tables) where
  -- a fact has numbers, by one of them and by what holds of each of its form
  pub numbers : (f : Fact) (n : FactModel) → Means r s ids ms t n f → OfNumbers r s ids ms t (Follows t) f
      → HasNumbers r s ids ms t f
  numbers f n means all = record { number = n; means = means; follows = of_number r s ids ms t (Follows t) f all }

  -- a premise that is there only if a dependency is optional
  pub optional_follows : (b c : Bool) (n : FactModel) (f : Fact) → b ≡ c → HaveNumbers r s ids ms t (if c then f ∷ [] else [])
      → (HasNumbers r s ids ms t f → Follows t n)
      → Each (Follows t) (if b then n ∷ [] else [])
  optional_follows true true n f e have go = each_one (Follows t) n (go (have f (inl refl)))
  optional_follows true false n f e have go = absurd cc
  optional_follows false c n f e have go = each_none (Follows t)

  -- a unit's place, which follows
  pub unit_number : (u : CompiledUnit) → HasNumbers r s ids ms t (means.Compiled u)
      → (place : UnitPlace) × UnitMeans ids ms t place u × Follows t (Compiled place)
  unit_number u has =
      let it = of_number r s ids ms t (λ n. (place : UnitPlace) × UnitMeans ids ms t place u) (means.Compiled u)
      (λ place is. (place, is)) has.number has.means in
      (it.0, it.1, has.follows (Compiled it.0) (u, it.1, refl))

  -- the link at a place follows, by the place that it says
  pub linked_at : (place : LinkPlace) (e : Edge) (d : DependencyModel) → HasNumbers r s ids ms t (means.Linked e d)
      → (is : LinkHere r s ids ms t place e d) → Follows t (Linked is.link.place)
  linked_at place e d h is =
      subst (λ (x : LinkPlace). Follows t (Linked x)) (sym is.place_is) (h.follows (Linked place) (e, d, is.means, refl))

  -- a link of what is linked
  pub linked_here : AreTables r s ids ms t → (e : Edge) (d : DependencyModel) → HasNumbers r s ids ms t (means.Linked e d)
      → (place : LinkPlace) × LinkHere r s ids ms t place e d
  linked_here tables e d h =
      of_number r s ids ms t (λ _. (place : LinkPlace) × LinkHere r s ids ms t place e d) (means.Linked e d)
      (λ place is. (place, link_here r s ids ms t tables place e d is)) h.number h.means
