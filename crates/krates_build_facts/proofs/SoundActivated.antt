-- The rows on the features of each side are rules.
use Rattle.std.proofs.Common.{◌≡◌, ℕ, List, [], ◌∷◌, Some, not, ◌&&◌, bytes_eq, refl, sym, ap, ◌∙◌, subst}
use Rattle.std.specs.List.{slice_get}
use Rattle.krates_cm.specs.Document.{Text, DependencyModel}
use Rattle.krates_text.specs.FeatureReference.{Reference, krate, weak, strong, simple}
use Rattle.krates_rules.specs.DeclaredDependency.{declared_name}
use Rattle.krates_rules.specs.Facts.{Id, Edge}
use Rattle.krates_rules.specs.Features.{HasReference}
use Rattle.krates_rules.specs.Resolved.{Resolved}
use Rattle.krates_rules.proofs.Elements.{contains_image}
use Rattle.krates_units.specs.BuildFacts as means
use Rattle.krates_units.specs.BuildRules as rules
use Rattle.krates_units.specs.BuildSetting.{BuildSettingModel}
use Rattle.krates_units.specs.FeaturesNamed.{NamesFeatureOf}
use Rattle.krates_units.specs.Machines.{MachineModel}
use Rattle.krates_units.specs.declared.sides.Side.{Side}
use Rattle.krates_build_tables.specs.References.{feature_named, reference_view, turns_on}
use Rattle.krates_build_tables.specs.TablesOf.{AreTables, references_of}
use Rattle.krates_build_tables.specs.declared.tables.CrateEntry.{CrateEntry}
use Rattle.krates_build_tables.specs.declared.tables.Link.{Link}
use Rattle.krates_build_tables.specs.declared.tables.LinkPlace.{LinkPlace}
use Rattle.krates_build_tables.specs.declared.tables.Tables.{Tables}
use Rattle.krates_build_facts.specs.FactModels.{FactModel, Linked, Activated, ActivatedReference, ActivatedFeature, ActivatedName, Used}
use Rattle.krates_build_facts.specs.Meanings.{AreMeant}
use Rattle.krates_build_facts.specs.Rows.{activated_by_reference, activated_strongly, counts, given_by_use, leads_from, rows_of, toggled, used, used_by_name}
use Rattle.krates_build_facts.proofs.Claims.{AreSound, IsSound}
use Rattle.krates_build_facts.proofs.Decisions.{counts_means, leads_means, named_means, turns_means}
use Rattle.krates_build_facts.proofs.RowLists.{EachRow, rows_append, rows_if, rows_mapped, rows_more, rows_none, rows_one, rows_some}
use Rattle.krates_build_facts.proofs.SoundRows.{by_first, gives, sound_rows}
use Rattle.krates_build_facts.proofs.TableEntries.{CrateHere, LinkOf, link_means}
use Rattle.krates_build_facts.proofs.Tests.{both_parts, not_true, same_text}

module _ (r : Resolved) (s : BuildSettingModel) (ids : List Id) (ms : List MachineModel) (t : Tables) where
  abbrev Sound : List FactModel → FactModel → Type 0
  Sound ps n = IsSound r s ids ms t ps n

  -- ---- crates that take part

  used_sound : (c : ℕ) (n : Side) (l : Link) (e : Edge) (d : DependencyModel) → LinkOf r s ids ms t c l e d → EachRow Sound (used c n l)
  used_sound c n l e d is = rows_if Sound (counts l n && not l.is_optional) _ (Used l.place n) (λ h.
      let both = both_parts (counts l n) (not l.is_optional) h in
      gives r s ids ms t (Activated c n ∷ Linked l.place ∷ []) (Used l.place n) (means.Used e d n) _ (e, d, is.means, refl)
      (rules.used (counts_means r s ids ms e.parent l e d is.says n both.0) (sym is.says.optional ∙ not_true l.is_optional both.1))
      ((e.parent, is.parent_at, refl), ((e, d, is.means, refl), tt)))

  pub sound_activated : AreTables r s ids ms t → (c : ℕ) (n : Side) → AreSound r s ids ms t (rows_of t (Activated c n))
  sound_activated tables c n = sound_rows r s ids ms t tables (Activated c n) (rows_none Sound)
      (λ e i crate l edge d resolves is. used_sound c n l edge d is) (λ e i crate. rows_none Sound)

  used_by_name_sound : (c : ℕ) (n : Side) (x : Text) (l : Link) (e : Edge) (d : DependencyModel) → LinkOf r s ids ms t c l e d
      → EachRow Sound (used_by_name c n x l)
  used_by_name_sound c n x l e d is = rows_if Sound (bytes_eq x l.name.now && counts l n) _ (Used l.place n) (λ h.
      let both = both_parts (bytes_eq x l.name.now) (counts l n) h in
      let name : x ≡ declared_name d = same_text x l.name.now both.0 ∙ is.says.name in
      gives r s ids ms t (ActivatedName c n x ∷ Linked l.place ∷ []) (Used l.place n) (means.Used e d n) _ (e, d, is.means, refl)
      (rules.used_by_name (counts_means r s ids ms e.parent l e d is.says n both.1))
      ((e.parent, is.parent_at, ap (means.ActivatedName e.parent n) (sym name)), ((e, d, is.means, refl), tt)))

  pub sound_activated_name : AreTables r s ids ms t → (c : ℕ) (n : Side) (x : Text)
      → AreSound r s ids ms t (rows_of t (ActivatedName c n x))
  sound_activated_name tables c n x = sound_rows r s ids ms t tables (ActivatedName c n x) (rows_none Sound)
      (λ e i crate l edge d resolves is. used_by_name_sound c n x l edge d is) (λ e i crate. rows_none Sound)

  -- ---- references

  reference_sound : (c : ℕ) (n : Side) (v : Reference) → EachRow Sound (activated_by_reference c n v)
  reference_sound c n (krate d) =
      let first = ActivatedReference c n (krate d) in
      rows_one Sound _ _ (by_first r s ids ms t first [] (ActivatedName c n d) (λ f is.
      gives r s ids ms t (first ∷ []) (ActivatedName c n d) (means.ActivatedName is.0 n d) (means.ActivatedReference is.0 n (krate d) ∷ [])
      (is.0, is.1, refl) rules.name ((is.0, is.1, refl), tt)))
  reference_sound c n (weak d g) = rows_none Sound
  reference_sound c n (strong d g) = rows_none Sound
  reference_sound c n (simple g) =
      let first = ActivatedReference c n (simple g) in
      rows_one Sound _ _ (by_first r s ids ms t first [] (ActivatedFeature c n g) (λ f is.
      gives r s ids ms t (first ∷ []) (ActivatedFeature c n g) (means.ActivatedFeature is.0 n g)
      (means.ActivatedReference is.0 n (simple g) ∷ []) (is.0, is.1, refl) rules.feature ((is.0, is.1, refl), tt)))

  -- the two premises of what a reference turns on
  by_turned : (c : ℕ) (n : Side) (v : Reference) (l : Link) (e : Edge) (d : DependencyModel) → LinkOf r s ids ms t c l e d → (g : Text)
      → v ≡ strong l.name.now g
      → AreMeant r s ids ms t (ActivatedReference c n v ∷ Linked l.place ∷ [])
      (means.ActivatedReference e.parent n (strong (declared_name d) g) ∷ means.Linked e d ∷ [])
  by_turned c n v l e d is g turned =
      let same : strong (declared_name d) g ≡ v = ap (λ (x : Text). strong x g) (sym is.says.name) ∙ sym turned in
      ((e.parent, is.parent_at, ap (means.ActivatedReference e.parent n) same), ((e, d, is.means, refl), tt))

  strongly_sound : (c : ℕ) (n : Side) (v : Reference) (l : Link) (e : Edge) (d : DependencyModel) → LinkOf r s ids ms t c l e d
      → EachRow Sound (activated_strongly c n v l)
  strongly_sound c n v l e d is = rows_append Sound _ _
      (rows_if Sound (turns_on v l.name.now && counts l n && l.is_optional) _ (ActivatedName c n l.name.now) (λ h.
      let parts = both_parts (turns_on v l.name.now && counts l n) l.is_optional h in
      let both = both_parts (turns_on v l.name.now) (counts l n) parts.0 in
      let turns = turns_means v l.name.now both.0 in
      gives r s ids ms t (ActivatedReference c n v ∷ Linked l.place ∷ []) (ActivatedName c n l.name.now)
      (means.ActivatedName e.parent n (declared_name d)) _
      (e.parent, is.parent_at, ap (means.ActivatedName e.parent n) (sym is.says.name))
      (rules.name_strongly {d = d} {g = turns.0} (counts_means r s ids ms e.parent l e d is.says n both.1) (sym is.says.optional ∙ parts.1))
      (by_turned c n v l e d is turns.0 turns.1)))
      (rows_if Sound (turns_on v l.name.now && counts l n && l.is_optional && l.is_feature) _ (ActivatedFeature c n l.name.now) (λ h.
      let all = both_parts (turns_on v l.name.now && counts l n && l.is_optional) l.is_feature h in
      let parts = both_parts (turns_on v l.name.now && counts l n) l.is_optional all.0 in
      let both = both_parts (turns_on v l.name.now) (counts l n) parts.0 in
      let turns = turns_means v l.name.now both.0 in
      gives r s ids ms t (ActivatedReference c n v ∷ Linked l.place ∷ []) (ActivatedFeature c n l.name.now)
      (means.ActivatedFeature e.parent n (declared_name d)) _
      (e.parent, is.parent_at, ap (means.ActivatedFeature e.parent n) (sym is.says.name))
      (rules.implied {d = d} {g = turns.0} (counts_means r s ids ms e.parent l e d is.says n both.1) (sym is.says.optional ∙ parts.1)
      (is.says.feature.0 all.1))
      (by_turned c n v l e d is turns.0 turns.1)))

  toggled_sound : AreTables r s ids ms t → (c : ℕ) (n : Side) (v : Reference) (l : Link) (e : Edge) (d : DependencyModel)
      → LinkOf r s ids ms t c l e d → EachRow Sound (toggled t c n v l)
  toggled_sound tables c n v l e d is = rows_some Sound (feature_named v l.name.now) _ (λ g named. rows_one Sound _ _ (
      let names = subst (λ (name : Text). NamesFeatureOf v name g) is.says.name (named_means v l.name.now g named) in
      gives r s ids ms t (ActivatedReference c n v ∷ Used l.place n ∷ []) (ActivatedFeature l.child (leads_from t l n) g)
      (means.ActivatedFeature e.child (leads_from t l n) g) _ (e.child, is.says.child, refl)
      (rules.toggled names (leads_means r s ids ms e.parent l e d is.says t tables.first n))
      ((e.parent, is.parent_at, refl), ((e, d, is.means, refl), tt))))

  pub sound_activated_reference : AreTables r s ids ms t → (c : ℕ) (n : Side) (v : Reference)
      → AreSound r s ids ms t (rows_of t (ActivatedReference c n v))
  sound_activated_reference tables c n v = sound_rows r s ids ms t tables (ActivatedReference c n v) (reference_sound c n v)
      (λ e i crate l edge d resolves is. rows_append Sound _ _ (strongly_sound c n v l edge d is) (toggled_sound tables c n v l edge d is))
      (λ e i crate. rows_none Sound)

  -- ---- features

  pub sound_activated_feature : AreTables r s ids ms t → (c : ℕ) (n : Side) (f : Text)
      → AreSound r s ids ms t (rows_of t (ActivatedFeature c n f))
  sound_activated_feature tables c n f = sound_rows r s ids ms t tables (ActivatedFeature c n f) (rows_none Sound)
      (λ e i crate l edge d resolves is. rows_none Sound)
      (λ e i crate. rows_some Sound (references_of e f) _ (λ refs at. rows_mapped Sound _ refs.items (λ v among.
      let has : HasReference r i f (reference_view v) = (crate.says.features f (reference_view v)).1
      (refs, at, contains_image reference_view refs.items v among) in
      let number = crate.crate_at in
      gives r s ids ms t (ActivatedFeature c n f ∷ []) (ActivatedReference c n (reference_view v))
      (means.ActivatedReference i n (reference_view v)) _ (i, number, refl) (rules.reference has) ((i, number, refl), tt))))

  -- ---- dependencies that count

  use_sound : AreTables r s ids ms t → (place : LinkPlace) (n : Side) (i : Id) (e : CrateEntry) → CrateHere r s ids ms t place.krate i e
      → (l : Link) → slice_get e.links.items place.index ≡ Some l → EachRow Sound (given_by_use t place n l)
  use_sound tables place n i e crate l at =
      let is = crate.says.links.each place.index l at in
      let means_it = link_means r s ids ms t tables place i e crate l at is.edge is.dep is.says in
      let leads = leads_means r s ids ms i l is.edge is.dep is.says t tables.first n in
      rows_more Sound _ _ _
      (gives r s ids ms t (Used place n ∷ []) (Activated l.child (leads_from t l n)) (means.Activated is.edge.child (leads_from t l n)) _
      (is.edge.child, is.says.child, refl) (rules.used_activated {d = is.dep} {n = n} leads) ((is.edge, is.dep, means_it, refl), tt))
      (rows_mapped Sound _ l.given.items (λ g among.
      gives r s ids ms t (Used place n ∷ []) (ActivatedFeature l.child (leads_from t l n) g.now)
      (means.ActivatedFeature is.edge.child (leads_from t l n) g.now) _ (is.edge.child, is.says.child, refl)
      (rules.used_given {d = is.dep} {n = n} ((is.says.given g.now).1 (contains_image (λ x. x.now) l.given.items g among)) leads)
      ((is.edge, is.dep, means_it, refl), tt)))

  pub sound_used : AreTables r s ids ms t → (place : LinkPlace) (n : Side) → AreSound r s ids ms t (rows_of t (Used place n))
  sound_used tables place n =
      sound_rows r s ids ms t tables (Used place n) (rows_none Sound) (λ e i crate l edge d resolves is. rows_none Sound)
      (λ e i crate. rows_some Sound (slice_get e.links.items place.index) (given_by_use t place n)
      (λ l at. use_sound tables place n i e crate l at))
