-- The rows on the features of each side cover the rules.
use Rattle.std.proofs.Common.{◌≡◌, ℕ, List, [], ◌∷◌, true, false, not, ◌&&◌, IsTrue, bytes_eq, refl, sym, ◌∙◌, subst, inl, inr}
use Rattle.std.specs.List.{slice_get}
use Rattle.std.proofs.lemmas.List.Elements.{Contains-append_left, Contains-append_right}
use Rattle.krates_cm.specs.Document.{Text, DependencyModel}
use Rattle.krates_text.specs.FeatureReference.{Reference, krate, strong, simple}
use Rattle.krates_rules.specs.DeclaredDependency.{declared_name}
use Rattle.krates_rules.specs.Facts.{Id, Edge}
use Rattle.krates_rules.specs.Features.{HasReference}
use Rattle.krates_rules.specs.Resolved.{Resolved}
use Rattle.krates_units.specs.BuildFacts as means
use Rattle.krates_units.specs.BuildSetting.{BuildSettingModel}
use Rattle.krates_units.specs.FeaturesNamed.{NamesFeatureOf}
use Rattle.krates_units.specs.Machines.{MachineModel}
use Rattle.krates_units.specs.Requests.{GivesFeature, HasFeature}
use Rattle.krates_units.specs.Sides.{Counts, Leads}
use Rattle.krates_units.specs.declared.sides.Side.{Side}
use Rattle.krates_build_tables.specs.References.{feature_named, reference_view, turns_on}
use Rattle.krates_build_tables.specs.TablesOf.{AreTables, CrateAt, references_of}
use Rattle.krates_build_tables.specs.declared.tables.LinkPlace.{LinkPlace}
use Rattle.krates_build_tables.specs.declared.tables.Tables.{Tables}
use Rattle.krates_build_facts.specs.FactModels.{Linked, Activated, ActivatedReference, ActivatedFeature, ActivatedName, Used}
use Rattle.krates_build_facts.specs.Meanings.{Follows}
use Rattle.krates_build_facts.specs.Rows.{activated_strongly, counts, given_by_use, leads_from, rule, toggled}
use Rattle.krates_build_facts.proofs.Claims.{HasNumbers, IsCovered}
use Rattle.krates_build_facts.proofs.CoverRows.{by_rows, in_alone, in_entry, in_link, linked_at, linked_here, numbers}
use Rattle.krates_build_facts.proofs.Decisions.{counts_tells, leads_tells, named_tells, turns_tells}
use Rattle.krates_build_facts.proofs.FactNumbers.{of_number}
use Rattle.krates_build_facts.proofs.RowLists.{each_one, each_two, here, in_if, in_some, mapped_row, there}
use Rattle.krates_build_facts.proofs.SoundRows.{gives, optional}
use Rattle.krates_build_facts.proofs.TableEntries.{LinkHere, entry_of, link_here}
use Rattle.krates_build_facts.proofs.Tests.{both_true, is_not, text_is}

module _ (r : Resolved) (s : BuildSettingModel) (ids : List Id) (ms : List MachineModel) (t : Tables)
    (tables : AreTables r s ids ms t) where
  abbrev Covered : List means.Fact → means.Fact → Type 0
  Covered premises fact = IsCovered r s ids ms t premises fact

  -- ---- what the premises' numbers say

  crate_feature : (p : Id) (n : Side) (f : Text) → HasNumbers r s ids ms t (means.ActivatedFeature p n f) → (c : ℕ) × CrateAt ids c p
  crate_feature p n f h =
      of_number r s ids ms t (λ _. (c : ℕ) × CrateAt ids c p) (means.ActivatedFeature p n f) (λ c at. (c, at)) h.number h.means

  crate_reference : (p : Id) (n : Side) (v : Reference) → HasNumbers r s ids ms t (means.ActivatedReference p n v)
      → (c : ℕ) × CrateAt ids c p
  crate_reference p n v h =
      of_number r s ids ms t (λ _. (c : ℕ) × CrateAt ids c p) (means.ActivatedReference p n v) (λ c at. (c, at)) h.number h.means

  used_here : (e : Edge) (d : DependencyModel) (n : Side) → HasNumbers r s ids ms t (means.Used e d n)
      → (place : LinkPlace) × LinkHere r s ids ms t place e d
  used_here e d n h =
      of_number r s ids ms t (λ _. (place : LinkPlace) × LinkHere r s ids ms t place e d) (means.Used e d n)
      (λ place is. (place, link_here r s ids ms t tables place e d is)) h.number h.means

  -- what is used follows, by the place that its link says
  used_at : (place : LinkPlace) (e : Edge) (d : DependencyModel) (n : Side) → HasNumbers r s ids ms t (means.Used e d n)
      → (is : LinkHere r s ids ms t place e d) → Follows t (Used is.link.place n)
  used_at place e d n h is =
      subst (λ (x : LinkPlace). Follows t (Used x n)) (sym is.place_is) (h.follows (Used place n) (e, d, is.means, refl))

  -- ---- references and features

  pub reference_covered : (p : Id) (n : Side) (f : Text) (v : Reference) → HasReference r p f v
      → Covered (means.ActivatedFeature p n f ∷ []) (means.ActivatedReference p n v)
  reference_covered p n f v has have =
      let feature = have (means.ActivatedFeature p n f) (inl refl) in
      let number = crate_feature p n f feature in
      numbers r s ids ms t (means.ActivatedReference p n v) (ActivatedReference number.0 n v) (p, number.1, refl) (λ c at.
      let crate = entry_of r s ids ms t tables c p at in
      let refs = (crate.1.says.features f v).0 has in
      let row = mapped_row reference_view (λ x. rule (ActivatedFeature c n f ∷ []) (ActivatedReference c n x)) refs.0.items v refs.2 in
      by_rows t (ActivatedFeature c n f) (ActivatedFeature c n f ∷ []) (ActivatedReference c n v)
      (in_entry t (ActivatedFeature c n f) crate.0 _ crate.1.at (in_some (references_of crate.0 f) refs.0 _ _ refs.1 row))
      (each_one (Follows t) (ActivatedFeature c n f) (feature.follows (ActivatedFeature c n f) (p, at, refl))))

  pub feature_covered : (p : Id) (n : Side) (g : Text)
      → Covered (means.ActivatedReference p n (simple g) ∷ []) (means.ActivatedFeature p n g)
  feature_covered p n g have =
      let reference = have (means.ActivatedReference p n (simple g)) (inl refl) in
      let number = crate_reference p n (simple g) reference in
      numbers r s ids ms t (means.ActivatedFeature p n g) (ActivatedFeature number.0 n g) (p, number.1, refl) (λ c at.
      by_rows t (ActivatedReference c n (simple g)) (ActivatedReference c n (simple g) ∷ []) (ActivatedFeature c n g)
      (in_alone t (ActivatedReference c n (simple g)) _ (here _ []))
      (each_one (Follows t) (ActivatedReference c n (simple g)) (reference.follows (ActivatedReference c n (simple g)) (p, at, refl))))

  pub name_covered : (p : Id) (n : Side) (d : Text) → Covered (means.ActivatedReference p n (krate d) ∷ []) (means.ActivatedName p n d)
  name_covered p n d have =
      let reference = have (means.ActivatedReference p n (krate d)) (inl refl) in
      let number = crate_reference p n (krate d) reference in
      numbers r s ids ms t (means.ActivatedName p n d) (ActivatedName number.0 n d) (p, number.1, refl) (λ c at.
      by_rows t (ActivatedReference c n (krate d)) (ActivatedReference c n (krate d) ∷ []) (ActivatedName c n d)
      (in_alone t (ActivatedReference c n (krate d)) _ (here _ []))
      (each_one (Follows t) (ActivatedReference c n (krate d)) (reference.follows (ActivatedReference c n (krate d)) (p, at, refl))))

  -- ---- what a reference turns on

  -- the test of a dependency that the reference turns on
  turned : (place : LinkPlace) (e : Edge) (d : DependencyModel) (n : Side) (g : Text) → (is : LinkHere r s ids ms t place e d)
      → Counts r s n e → d.optional ≡ true
      → IsTrue (turns_on (strong (declared_name d) g) is.link.name.now && counts is.link n && is.link.is_optional)
  turned place e d n g is counted optional =
      let l = is.link in
      both_true (turns_on (strong (declared_name d) g) l.name.now && counts l n) l.is_optional
      (both_true (turns_on (strong (declared_name d) g) l.name.now) (counts l n) (turns_tells (declared_name d) l.name.now g is.says.name)
      (counts_tells r s ids ms e.parent l e d is.says n counted))
      (is.says.optional ∙ optional)

  pub name_strongly_covered : (e : Edge) (d : DependencyModel) (n : Side) (g : Text) → Counts r s n e → d.optional ≡ true
      → Covered (means.ActivatedReference e.parent n (strong (declared_name d) g) ∷ means.Linked e d ∷ [])
      (means.ActivatedName e.parent n (declared_name d))
  name_strongly_covered e d n g counted optional have =
      let v = strong (declared_name d) g in
      let reference = have (means.ActivatedReference e.parent n v) (inl refl) in
      let linked = have (means.Linked e d) (inr (inl refl)) in
      let link = linked_here r s ids ms t tables e d linked in
      let place = link.0 in
      let is = link.1 in
      let l = is.link in
      let begin = ActivatedReference place.krate n v in
      let number = is.crate.crate_at in
      let test = turned place e d n g is counted optional in
      let ps = begin ∷ Linked l.place ∷ [] in
      let row = in_if (turns_on v l.name.now && counts l n && l.is_optional) ps (ActivatedName place.krate n l.name.now) test in
      let by_link = in_link t begin is.entry place.index l _ is.crate.at is.at
      (Contains-append_left (activated_strongly place.krate n v l) (toggled t place.krate n v l) _ (Contains-append_left _ _ _ row)) in
      let below = each_two (Follows t) begin (Linked l.place) (reference.follows begin (e.parent, number, refl))
      (linked_at r s ids ms t place e d linked is) in
      let found = subst (λ (x : Text). Follows t (ActivatedName place.krate n x)) is.says.name
      (by_rows t begin ps (ActivatedName place.krate n l.name.now) by_link below) in
      numbers r s ids ms t (means.ActivatedName e.parent n (declared_name d)) (ActivatedName place.krate n (declared_name d))
      (e.parent, number, refl) (λ c at.
      subst (λ (x : ℕ). Follows t (ActivatedName x n (declared_name d)))
      (tables.ids_once place.krate c e.parent number at) found)

  pub implied_covered : (e : Edge) (d : DependencyModel) (n : Side) (g : Text) → Counts r s n e → d.optional ≡ true
      → HasFeature r e.parent (declared_name d)
      → Covered (means.ActivatedReference e.parent n (strong (declared_name d) g) ∷ means.Linked e d ∷ [])
      (means.ActivatedFeature e.parent n (declared_name d))
  implied_covered e d n g counted optional has have =
      let v = strong (declared_name d) g in
      let reference = have (means.ActivatedReference e.parent n v) (inl refl) in
      let linked = have (means.Linked e d) (inr (inl refl)) in
      let link = linked_here r s ids ms t tables e d linked in
      let place = link.0 in
      let is = link.1 in
      let l = is.link in
      let begin = ActivatedReference place.krate n v in
      let number = is.crate.crate_at in
      let test = both_true (turns_on v l.name.now && counts l n && l.is_optional) l.is_feature (turned place e d n g is counted optional)
      (is.says.feature.1 has) in
      let ps = begin ∷ Linked l.place ∷ [] in
      let row = in_if (turns_on v l.name.now && counts l n && l.is_optional && l.is_feature) ps
      (ActivatedFeature place.krate n l.name.now) test in
      let by_link = in_link t begin is.entry place.index l _ is.crate.at is.at
      (Contains-append_left (activated_strongly place.krate n v l) (toggled t place.krate n v l) _ (Contains-append_right _ _ _ row)) in
      let below = each_two (Follows t) begin (Linked l.place) (reference.follows begin (e.parent, number, refl))
      (linked_at r s ids ms t place e d linked is) in
      let found = subst (λ (x : Text). Follows t (ActivatedFeature place.krate n x)) is.says.name
      (by_rows t begin ps (ActivatedFeature place.krate n l.name.now) by_link below) in
      numbers r s ids ms t (means.ActivatedFeature e.parent n (declared_name d)) (ActivatedFeature place.krate n (declared_name d))
      (e.parent, number, refl) (λ c at.
      subst (λ (x : ℕ). Follows t (ActivatedFeature x n (declared_name d)))
      (tables.ids_once place.krate c e.parent number at) found)

  -- ---- dependencies that count

  pub used_covered : (e : Edge) (d : DependencyModel) (n : Side) → Counts r s n e → d.optional ≡ false
      → Covered (means.Activated e.parent n ∷ means.Linked e d ∷ []) (means.Used e d n)
  used_covered e d n counted optional have =
      let activated = have (means.Activated e.parent n) (inl refl) in
      let linked = have (means.Linked e d) (inr (inl refl)) in
      let link = linked_here r s ids ms t tables e d linked in
      numbers r s ids ms t (means.Used e d n) (Used link.0 n) (e, d, link.1.means, refl) (λ place means_it.
      let is = link_here r s ids ms t tables place e d means_it in
      let l = is.link in
      let begin = Activated place.krate n in
      let ps = begin ∷ Linked l.place ∷ [] in
      let test = both_true (counts l n) (not l.is_optional) (counts_tells r s ids ms e.parent l e d is.says n counted)
      (is_not l.is_optional (is.says.optional ∙ optional)) in
      subst (λ (x : LinkPlace). Follows t (Used x n)) is.place_is
      (by_rows t begin ps (Used l.place n)
      (in_link t begin is.entry place.index l _ is.crate.at is.at
      (in_if (counts l n && not l.is_optional) ps (Used l.place n) test))
      (each_two (Follows t) begin (Linked l.place) (activated.follows begin (e.parent, is.crate.crate_at, refl))
      (linked_at r s ids ms t place e d linked is))))

  pub used_by_name_covered : (e : Edge) (d : DependencyModel) (n : Side) → Counts r s n e
      → Covered (means.ActivatedName e.parent n (declared_name d) ∷ means.Linked e d ∷ []) (means.Used e d n)
  used_by_name_covered e d n counted have =
      let name = declared_name d in
      let activated = have (means.ActivatedName e.parent n name) (inl refl) in
      let linked = have (means.Linked e d) (inr (inl refl)) in
      let link = linked_here r s ids ms t tables e d linked in
      numbers r s ids ms t (means.Used e d n) (Used link.0 n) (e, d, link.1.means, refl) (λ place means_it.
      let is = link_here r s ids ms t tables place e d means_it in
      let l = is.link in
      let begin = ActivatedName place.krate n name in
      let ps = begin ∷ Linked l.place ∷ [] in
      let test = both_true (bytes_eq name l.name.now) (counts l n) (text_is name l.name.now (sym is.says.name))
      (counts_tells r s ids ms e.parent l e d is.says n counted) in
      subst (λ (x : LinkPlace). Follows t (Used x n)) is.place_is
      (by_rows t begin ps (Used l.place n)
      (in_link t begin is.entry place.index l _ is.crate.at is.at
      (in_if (bytes_eq name l.name.now && counts l n) ps (Used l.place n) test))
      (each_two (Follows t) begin (Linked l.place) (activated.follows begin (e.parent, is.crate.crate_at, refl))
      (linked_at r s ids ms t place e d linked is))))

  -- ---- what a dependency gives where it leads to

  pub used_activated_covered : (e : Edge) (d : DependencyModel) (n m : Side) → Leads r s n e m
      → Covered (means.Used e d n ∷ []) (means.Activated e.child m)
  used_activated_covered e d n m leads have =
      let used = have (means.Used e d n) (inl refl) in
      let at_place = used_here e d n used in
      let place = at_place.0 in
      let is = at_place.1 in
      let l = is.link in
      let side = leads_tells r s ids ms e.parent l e d is.says t tables.first n m leads in
      let found = by_rows t (Used place n) (Used place n ∷ []) (Activated l.child (leads_from t l n))
      (in_entry t (Used place n) is.entry _ is.crate.at
      (in_some (slice_get is.entry.links.items place.index) l (given_by_use t place n) _ is.at (here _ _)))
      (each_one (Follows t) (Used place n) (used.follows (Used place n) (e, d, is.means, refl))) in
      numbers r s ids ms t (means.Activated e.child m) (Activated l.child m) (e.child, is.says.child, refl) (λ c at.
      subst (λ (x : ℕ). Follows t (Activated x m)) (tables.ids_once l.child c e.child is.says.child at)
      (subst (λ (x : Side). Follows t (Activated l.child x)) (sym side) found))

  pub used_given_covered : (e : Edge) (d : DependencyModel) (n m : Side) (g : Text) → GivesFeature r d e.child g → Leads r s n e m
      → Covered (means.Used e d n ∷ []) (means.ActivatedFeature e.child m g)
  used_given_covered e d n m g gives leads have =
      let used = have (means.Used e d n) (inl refl) in
      let at_place = used_here e d n used in
      let place = at_place.0 in
      let is = at_place.1 in
      let l = is.link in
      let side = leads_tells r s ids ms e.parent l e d is.says t tables.first n m leads in
      let row = mapped_row (λ x. x.now) (λ x. rule (Used place n ∷ []) (ActivatedFeature l.child (leads_from t l n) x)) l.given.items g
      ((is.says.given g).0 gives) in
      let found = by_rows t (Used place n) (Used place n ∷ []) (ActivatedFeature l.child (leads_from t l n) g)
      (in_entry t (Used place n) is.entry _ is.crate.at
      (in_some (slice_get is.entry.links.items place.index) l (given_by_use t place n) _ is.at (there _ _ _ row)))
      (each_one (Follows t) (Used place n) (used.follows (Used place n) (e, d, is.means, refl))) in
      numbers r s ids ms t (means.ActivatedFeature e.child m g) (ActivatedFeature l.child m g) (e.child, is.says.child, refl) (λ c at.
      subst (λ (x : ℕ). Follows t (ActivatedFeature x m g)) (tables.ids_once l.child c e.child is.says.child at)
      (subst (λ (x : Side). Follows t (ActivatedFeature l.child x g)) (sym side) found))

  pub toggled_covered : (e : Edge) (d : DependencyModel) (n m : Side) (v : Reference) (g : Text) → NamesFeatureOf v (declared_name d) g
      → Leads r s n e m
      → Covered (means.ActivatedReference e.parent n v ∷ means.Used e d n ∷ []) (means.ActivatedFeature e.child m g)
  toggled_covered e d n m v g names leads have =
      let reference = have (means.ActivatedReference e.parent n v) (inl refl) in
      let used = have (means.Used e d n) (inr (inl refl)) in
      let at_place = used_here e d n used in
      let place = at_place.0 in
      let is = at_place.1 in
      let l = is.link in
      let side = leads_tells r s ids ms e.parent l e d is.says t tables.first n m leads in
      let named = named_tells v l.name.now g (subst (λ (x : Text). NamesFeatureOf v x g) (sym is.says.name) names) in
      let begin = ActivatedReference place.krate n v in
      let ps = begin ∷ Used l.place n ∷ [] in
      let row = in_some (feature_named v l.name.now) g (λ x. rule ps (ActivatedFeature l.child (leads_from t l n) x) ∷ [])
      (rule ps (ActivatedFeature l.child (leads_from t l n) g)) named (here _ []) in
      let by_link = in_link t begin is.entry place.index l _ is.crate.at is.at
      (Contains-append_right (activated_strongly place.krate n v l) (toggled t place.krate n v l) _ row) in
      let found = by_rows t begin ps (ActivatedFeature l.child (leads_from t l n) g) by_link
      (each_two (Follows t) begin (Used l.place n) (reference.follows begin (e.parent, is.crate.crate_at, refl))
      (used_at place e d n used is)) in
      numbers r s ids ms t (means.ActivatedFeature e.child m g) (ActivatedFeature l.child m g) (e.child, is.says.child, refl) (λ c at.
      subst (λ (x : ℕ). Follows t (ActivatedFeature x m g)) (tables.ids_once l.child c e.child is.says.child at)
      (subst (λ (x : Side). Follows t (ActivatedFeature l.child x g)) (sym side) found))
