-- The rows on which dependencies exist are rules.
use Rattle.std.proofs.Common.{◌≡◌, ℕ, List, [], ◌∷◌, map, Some, if◌then◌else◌, refl, sym, ap, subst}
use Rattle.std.specs.List.{Contains, slice_get}
use Rattle.krates_cm.specs.Document.{Text, DependencyModel}
use Rattle.krates_text.specs.FeatureReference.{Reference, krate, weak, strong, simple}
use Rattle.krates_rules.specs.DeclaredDependency.{declared_name}
use Rattle.krates_rules.specs.Facts.{Id, Edge}
use Rattle.krates_rules.specs.Features.{HasReference}
use Rattle.krates_rules.specs.Resolved.{Resolved}
use Rattle.krates_rules.proofs.Elements.{contains_image}
use Rattle.krates_units.specs.BuildFacts as means
use Rattle.krates_units.specs.BuildRules as rules
use Rattle.krates_units.specs.BuildSetting.{BuildSettingModel}
use Rattle.krates_units.specs.FeaturesNamed.{NamesDependency, NamesFeatureOf}
use Rattle.krates_units.specs.Machines.{MachineModel}
use Rattle.krates_units.specs.Resolves.{Resolves}
use Rattle.krates_units.specs.Sides.{TakesKind}
use Rattle.krates_units.specs.declared.sides.Meeting.{Meeting}
use Rattle.krates_units.specs.declared.sides.Meeting.TheVariants as meetings
use Rattle.krates_build_tables.specs.References.{feature_named, reference_view, turns_on}
use Rattle.krates_build_tables.specs.TablesOf.{AreTables, references_of}
use Rattle.krates_build_tables.specs.declared.tables.CrateEntry.{CrateEntry}
use Rattle.krates_build_tables.specs.declared.tables.Lacking.{Lacking}
use Rattle.krates_build_tables.specs.declared.tables.Link.{Link}
use Rattle.krates_build_tables.specs.declared.tables.LinkPlace.{LinkPlace}
use Rattle.krates_build_tables.specs.declared.tables.Tables.{Tables}
use Rattle.krates_build_facts.specs.FactModels.{FactModel, Met, LinkedReference, LinkedFeature, LinkedName, Linked, Lost}
use Rattle.krates_build_facts.specs.Rows.{if_optional, given_by_link, linked, linked_by_reference, linked_implied, linked_toggled, lost, rows_of, takes_kind}
use Rattle.krates_build_facts.proofs.Claims.{AreSound, IsSound}
use Rattle.krates_build_facts.proofs.Decisions.{named_means, takes_means, turns_means}
use Rattle.krates_build_facts.proofs.RowLists.{EachRow, rows_flat, rows_if, rows_mapped, rows_more, rows_none, rows_one, rows_some}
use Rattle.krates_build_facts.proofs.SoundRows.{by_first, gives, optional, sound_rows}
use Rattle.krates_build_facts.proofs.TableEntries.{CrateHere, LinkOf, lacking_of, link_means}

module _ (r : Resolved) (s : BuildSettingModel) (ids : List Id) (ms : List MachineModel) (t : Tables) where
  abbrev Sound : List FactModel → FactModel → Type 0
  Sound ps n = IsSound r s ids ms t ps n

  -- ---- crates that are met

  linked_sound : (c : ℕ) (m : Meeting) (l : Link) (e : Edge) (d : DependencyModel) → Resolves r e d → LinkOf r s ids ms t c l e d
      → EachRow Sound (linked c m l)
  linked_sound c m l e d resolves is =
      rows_if Sound (takes_kind m l.kind) (Met c m ∷ if_optional l (LinkedName c m l.name.now)) (Linked l.place) (λ h.
      let takes = subst (TakesKind m) (sym is.says.kind) (takes_means m l.kind h) in
      let name = ap (means.LinkedName e.parent m) (sym is.says.name) in
      gives r s ids ms t (Met c m ∷ if_optional l (LinkedName c m l.name.now)) (Linked l.place) (means.Linked e d) _ (e, d, is.means, refl)
      (rules.linked resolves takes) (
        (e.parent, is.parent_at, refl),
        optional r s ids ms t l.is_optional d.optional (LinkedName c m l.name.now)
            (means.LinkedName e.parent m (declared_name d)) is.says.optional (e.parent, is.parent_at, name),
      ))

  lost_sound : (c : ℕ) (m : Meeting) (i : Id) (e : CrateEntry) → AreTables r s ids ms t → CrateHere r s ids ms t c i e → (x : Lacking)
      → Contains e.lacking.items x → EachRow Sound (lost c m x)
  lost_sound c m i e tables crate x among = rows_if Sound (takes_kind m x.kind) _ (Lost x.krate x.index) (λ h.
      let lacking = lacking_of r s ids ms t tables c i e crate x among in
      let d = lacking.0 in
      let is = lacking.2 in
      let at = crate.crate_at in
      let takes = subst (TakesKind m) is.says.kind (takes_means m x.kind h) in
      let name = LinkedName c m x.name.now in
      gives r s ids ms t (Met c m ∷ (if x.is_optional then name ∷ [] else [])) (Lost x.krate x.index) (means.Lost i d) _
      (i, d, is.means, refl) (rules.lost lacking.1 takes) (
        (i, at, refl),
        optional r s ids ms t x.is_optional d.optional name (means.LinkedName i m (declared_name d)) is.says.optional
            (i, at, ap (means.LinkedName i m) (sym is.says.name)),
      ))

  pub sound_met : AreTables r s ids ms t → (c : ℕ) (m : Meeting) → AreSound r s ids ms t (rows_of t (Met c m))
  sound_met tables c m = sound_rows r s ids ms t tables (Met c m) (rows_none Sound)
      (λ e i crate l edge d resolves is. linked_sound c m l edge d resolves is)
      (λ e i crate. rows_flat Sound (lost c m) e.lacking.items (λ x among. lost_sound c m i e tables crate x among))

  -- ---- references

  named_sound : (c : ℕ) (m : Meeting) (v : Reference) (d : Text) → NamesDependency v d → Sound (LinkedReference c m v ∷ []) (LinkedName c m d)
  named_sound c m v d names = by_first r s ids ms t (LinkedReference c m v) [] (LinkedName c m d) (λ f is.
      gives r s ids ms t (LinkedReference c m v ∷ []) (LinkedName c m d) (means.LinkedName is.0 m d) (means.LinkedReference is.0 m v ∷ [])
      (is.0, is.1, refl) (rules.linked_name names) ((is.0, is.1, refl), tt))

  reference_sound : (c : ℕ) (m : Meeting) (v : Reference) → EachRow Sound (linked_by_reference c m v)
  reference_sound c m (krate d) = rows_one Sound _ _ (named_sound c m (krate d) d refl)
  reference_sound c m (weak d g) = rows_one Sound _ _ (named_sound c m (weak d g) d refl)
  reference_sound c m (strong d g) = rows_one Sound _ _ (named_sound c m (strong d g) d refl)
  reference_sound c m (simple g) =
      let first = LinkedReference c m (simple g) in
      rows_one Sound _ _ (by_first r s ids ms t first [] (LinkedFeature c m g) (λ f is.
      gives r s ids ms t (first ∷ []) (LinkedFeature c m g) (means.LinkedFeature is.0 m g) (means.LinkedReference is.0 m (simple g) ∷ [])
      (is.0, is.1, refl) rules.linked_feature ((is.0, is.1, refl), tt)))

  toggled_sound : (c : ℕ) (m : Meeting) (v : Reference) (l : Link) (e : Edge) (d : DependencyModel) → Resolves r e d
      → LinkOf r s ids ms t c l e d → EachRow Sound (linked_toggled c m v l)
  toggled_sound c m v l e d resolves is =
      rows_some Sound (feature_named v l.name.now) _ (λ g named. rows_if Sound (takes_kind m l.kind) _ _ (λ h.
      let takes = subst (TakesKind m) (sym is.says.kind) (takes_means m l.kind h) in
      let names = subst (λ (name : Text). NamesFeatureOf v name g) is.says.name (named_means v l.name.now g named) in
      gives r s ids ms t (LinkedReference c m v ∷ []) (LinkedFeature l.child meetings.Dependency g)
      (means.LinkedFeature e.child meetings.Dependency g) _ (e.child, is.says.child, refl) (rules.linked_toggled resolves takes names)
      ((e.parent, is.parent_at, refl), tt)))

  implied_sound : (c : ℕ) (m : Meeting) (v : Reference) (i : Id) (e : CrateEntry) → CrateHere r s ids ms t c i e → (name : Text)
      → Contains (map (λ x. x.now) e.implied.items) name → EachRow Sound (linked_implied c m v name)
  implied_sound c m v i e crate name among = rows_if Sound (turns_on v name) _ (LinkedFeature c m name) (λ h.
      let turns = turns_means v name h in
      let has = (crate.says.implied name).1 among in
      let at = crate.crate_at in
      gives r s ids ms t (LinkedReference c m v ∷ []) (LinkedFeature c m name) (means.LinkedFeature i m name) _ (i, at, refl)
      (rules.linked_implied {g = turns.0} has.0 has.1) ((i, at, ap (means.LinkedReference i m) (sym turns.1)), tt))

  pub sound_linked_reference : AreTables r s ids ms t → (c : ℕ) (m : Meeting) (v : Reference)
      → AreSound r s ids ms t (rows_of t (LinkedReference c m v))
  sound_linked_reference tables c m v = sound_rows r s ids ms t tables (LinkedReference c m v) (reference_sound c m v)
      (λ e i crate l edge d resolves is. toggled_sound c m v l edge d resolves is)
      (λ e i crate. rows_flat Sound (λ name. linked_implied c m v name.now) e.implied.items
      (λ name among. implied_sound c m v i e crate name.now (contains_image (λ x. x.now) e.implied.items name among)))

  -- ---- features

  pub sound_linked_feature : AreTables r s ids ms t → (c : ℕ) (m : Meeting) (f : Text)
      → AreSound r s ids ms t (rows_of t (LinkedFeature c m f))
  sound_linked_feature tables c m f = sound_rows r s ids ms t tables (LinkedFeature c m f) (rows_none Sound)
      (λ e i crate l edge d resolves is. rows_none Sound)
      (λ e i crate. rows_some Sound (references_of e f) _ (λ refs at. rows_mapped Sound _ refs.items (λ v among.
      let has : HasReference r i f (reference_view v) = (crate.says.features f (reference_view v)).1
      (refs, at, contains_image reference_view refs.items v among) in
      let number = crate.crate_at in
      gives r s ids ms t (LinkedFeature c m f ∷ []) (LinkedReference c m (reference_view v)) (means.LinkedReference i m (reference_view v)) _
      (i, number, refl) (rules.linked_reference has) ((i, number, refl), tt))))

  pub sound_linked_name : AreTables r s ids ms t → (c : ℕ) (m : Meeting) (d : Text) → AreSound r s ids ms t (rows_of t (LinkedName c m d))
  sound_linked_name tables c m d = sound_rows r s ids ms t tables (LinkedName c m d) (rows_none Sound)
      (λ e i crate l edge x resolves is. rows_none Sound) (λ e i crate. rows_none Sound)

  -- ---- dependencies that exist

  link_sound : AreTables r s ids ms t → (place : LinkPlace) (i : Id) (e : CrateEntry) → CrateHere r s ids ms t place.krate i e → (l : Link)
      → slice_get e.links.items place.index ≡ Some l → EachRow Sound (given_by_link place l)
  link_sound tables place i e crate l at =
      let is = crate.says.links.each place.index l at in
      let means_it = link_means r s ids ms t tables place i e crate l at is.edge is.dep is.says in
      rows_more Sound _ _ _
      (gives r s ids ms t (Linked place ∷ []) (Met l.child meetings.Dependency) (means.Met is.edge.child meetings.Dependency) _
      (is.edge.child, is.says.child, refl) (rules.linked_met {e = is.edge} {d = is.dep}) ((is.edge, is.dep, means_it, refl), tt))
      (rows_mapped Sound _ l.given.items (λ g among.
      gives r s ids ms t (Linked place ∷ []) (LinkedFeature l.child meetings.Dependency g.now)
      (means.LinkedFeature is.edge.child meetings.Dependency g.now) _ (is.edge.child, is.says.child, refl)
      (rules.linked_given {e = is.edge} {d = is.dep} ((is.says.given g.now).1 (contains_image (λ x. x.now) l.given.items g among)))
      ((is.edge, is.dep, means_it, refl), tt)))

  pub sound_linked : AreTables r s ids ms t → (place : LinkPlace) → AreSound r s ids ms t (rows_of t (Linked place))
  sound_linked tables place =
      sound_rows r s ids ms t tables (Linked place) (rows_none Sound) (λ e i crate l edge d resolves is. rows_none Sound)
      (λ e i crate. rows_some Sound (slice_get e.links.items place.index) (given_by_link place)
      (λ l at. link_sound tables place i e crate l at))

  pub sound_lost : AreTables r s ids ms t → (c index : ℕ) → AreSound r s ids ms t (rows_of t (Lost c index))
  sound_lost tables c index = sound_rows r s ids ms t tables (Lost c index) (rows_none Sound)
      (λ e i crate l edge d resolves is. rows_none Sound) (λ e i crate. rows_none Sound)
