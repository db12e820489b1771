-- The rows on which dependencies exist cover the rules.
use Rattle.std.proofs.Common.{ℕ, List, [], ◌∷◌, refl, sym, ap, subst, inl, inr}
use Rattle.std.specs.List.{Contains, slice_get}
use Rattle.krates_cm.specs.Document.{Text, DependencyModel}
use Rattle.krates_text.specs.FeatureReference.{Reference, krate, weak, strong, simple}
use Rattle.krates_rules.specs.DeclaredDependency.{declared_name}
use Rattle.krates_rules.specs.Facts.{Id, Edge}
use Rattle.krates_rules.specs.Features.{HasReference}
use Rattle.krates_rules.specs.Resolved.{Resolved}
use Rattle.krates_rules.proofs.Elements.{contains_source}
use Rattle.krates_units.specs.BuildFacts as means
use Rattle.krates_units.specs.BuildRules as rules
use Rattle.krates_units.specs.BuildSetting.{BuildSettingModel}
use Rattle.krates_units.specs.FeaturesNamed.{NamesDependency, NamesFeatureOf}
use Rattle.krates_units.specs.Machines.{MachineModel}
use Rattle.krates_units.specs.Requests.{GivesFeature, HasFeature, KnowsOptional}
use Rattle.krates_units.specs.Resolves.{LacksEdge, Resolves}
use Rattle.krates_units.specs.Sides.{TakesKind}
use Rattle.krates_units.specs.declared.sides.Meeting.{Meeting}
use Rattle.krates_units.specs.declared.sides.Meeting.TheVariants as meetings
use Rattle.krates_build_tables.specs.References.{feature_named, reference_view, turns_on}
use Rattle.krates_build_tables.specs.TablesOf.{AreTables, CrateAt, references_of}
use Rattle.krates_build_tables.specs.declared.tables.LinkPlace.{LinkPlace}
use Rattle.krates_build_tables.specs.declared.tables.Tables.{Tables}
use Rattle.krates_build_facts.specs.FactModels.{Met, LinkedReference, LinkedFeature, LinkedName, Linked, Lost}
use Rattle.krates_build_facts.specs.Meanings.{Follows, LackingMeans}
use Rattle.krates_build_facts.specs.Rows.{given_by_link, if_optional, linked_by_reference, linked_implied, lost, rule, rule_if, takes_kind}
use Rattle.krates_build_facts.proofs.Claims.{HasNumbers, IsCovered}
use Rattle.krates_build_facts.proofs.CoverRows.{by_rows, in_alone, in_entry, in_link, linked_here, numbers, optional_follows}
use Rattle.krates_build_facts.proofs.Decisions.{named_tells, takes_tells, turns_tells}
use Rattle.krates_build_facts.proofs.FactNumbers.{of_number}
use Rattle.krates_build_facts.proofs.RowLists.{each_more, each_one, here, in_flat, in_flat_at, in_if, in_some, mapped_row, there}
use Rattle.krates_build_facts.proofs.SoundRows.{gives}
use Rattle.krates_build_facts.proofs.TableEntries.{entry_of, lacking_here, link_here, link_resolved}

-- the row of a name that a reference names
named_row : (c : ℕ) (m : Meeting) (v : Reference) (name : Text) → NamesDependency v name
    → Contains (linked_by_reference c m v) (rule (LinkedReference c m v ∷ []) (LinkedName c m name))
named_row c m (krate d) name e =
    subst (λ (x : Text). Contains (linked_by_reference c m (krate d)) (rule (LinkedReference c m (krate d) ∷ []) (LinkedName c m x)))
    (sym e) (here _ [])
named_row c m (weak d g) name e =
    subst (λ (x : Text). Contains (linked_by_reference c m (weak d g)) (rule (LinkedReference c m (weak d g) ∷ []) (LinkedName c m x)))
    (sym e) (here _ [])
named_row c m (strong d g) name e =
    subst (λ (x : Text). Contains (linked_by_reference c m (strong d g)) (rule (LinkedReference c m (strong d g) ∷ []) (LinkedName c m x)))
    (sym e) (here _ [])
named_row c m (simple g) name e = absurd e

module _ (r : Resolved) (s : BuildSettingModel) (ids : List Id) (ms : List MachineModel) (t : Tables)
    (tables : AreTables r s ids ms t) where
  abbrev Covered : List means.Fact → means.Fact → Type 0
  Covered premises fact = IsCovered r s ids ms t premises fact

  -- ---- references and features

  -- the numbers of crates with a feature or a reference
  crate_feature : (p : Id) (m : Meeting) (f : Text) → HasNumbers r s ids ms t (means.LinkedFeature p m f) → (c : ℕ) × CrateAt ids c p
  crate_feature p m f h =
      of_number r s ids ms t (λ _. (c : ℕ) × CrateAt ids c p) (means.LinkedFeature p m f) (λ c at. (c, at)) h.number h.means

  crate_reference : (p : Id) (m : Meeting) (v : Reference) → HasNumbers r s ids ms t (means.LinkedReference p m v)
      → (c : ℕ) × CrateAt ids c p
  crate_reference p m v h =
      of_number r s ids ms t (λ _. (c : ℕ) × CrateAt ids c p) (means.LinkedReference p m v) (λ c at. (c, at)) h.number h.means

  pub linked_reference_covered : (p : Id) (w : Meeting) (f : Text) (v : Reference) → HasReference r p f v
      → Covered (means.LinkedFeature p w f ∷ []) (means.LinkedReference p w v)
  linked_reference_covered p w f v has have =
      let feature = have (means.LinkedFeature p w f) (inl refl) in
      let number = crate_feature p w f feature in
      numbers r s ids ms t (means.LinkedReference p w v) (LinkedReference number.0 w v) (p, number.1, refl) (λ c at.
      let crate = entry_of r s ids ms t tables c p at in
      let refs = (crate.1.says.features f v).0 has in
      let row = mapped_row reference_view (λ x. rule (LinkedFeature c w f ∷ []) (LinkedReference c w x)) refs.0.items v refs.2 in
      by_rows t (LinkedFeature c w f) (LinkedFeature c w f ∷ []) (LinkedReference c w v)
      (in_entry t (LinkedFeature c w f) crate.0 _ crate.1.at (in_some (references_of crate.0 f) refs.0 _ _ refs.1 row))
      (each_one (Follows t) (LinkedFeature c w f) (feature.follows (LinkedFeature c w f) (p, at, refl))))

  pub linked_feature_covered : (p : Id) (w : Meeting) (g : Text)
      → Covered (means.LinkedReference p w (simple g) ∷ []) (means.LinkedFeature p w g)
  linked_feature_covered p w g have =
      let reference = have (means.LinkedReference p w (simple g)) (inl refl) in
      let number = crate_reference p w (simple g) reference in
      numbers r s ids ms t (means.LinkedFeature p w g) (LinkedFeature number.0 w g) (p, number.1, refl) (λ c at.
      by_rows t (LinkedReference c w (simple g)) (LinkedReference c w (simple g) ∷ []) (LinkedFeature c w g)
      (in_alone t (LinkedReference c w (simple g)) _ (here _ []))
      (each_one (Follows t) (LinkedReference c w (simple g)) (reference.follows (LinkedReference c w (simple g)) (p, at, refl))))

  pub linked_name_covered : (p : Id) (w : Meeting) (v : Reference) (d : Text) → NamesDependency v d
      → Covered (means.LinkedReference p w v ∷ []) (means.LinkedName p w d)
  linked_name_covered p w v d names have =
      let reference = have (means.LinkedReference p w v) (inl refl) in
      let number = crate_reference p w v reference in
      numbers r s ids ms t (means.LinkedName p w d) (LinkedName number.0 w d) (p, number.1, refl) (λ c at.
      by_rows t (LinkedReference c w v) (LinkedReference c w v ∷ []) (LinkedName c w d)
      (in_alone t (LinkedReference c w v) _ (named_row c w v d names))
      (each_one (Follows t) (LinkedReference c w v) (reference.follows (LinkedReference c w v) (p, at, refl))))

  pub linked_implied_covered : (p : Id) (w : Meeting) (d g : Text) → KnowsOptional r p d → HasFeature r p d
      → Covered (means.LinkedReference p w (strong d g) ∷ []) (means.LinkedFeature p w d)
  linked_implied_covered p w d g knows has have =
      let v = strong d g in
      let reference = have (means.LinkedReference p w v) (inl refl) in
      let number = crate_reference p w v reference in
      numbers r s ids ms t (means.LinkedFeature p w d) (LinkedFeature number.0 w d) (p, number.1, refl) (λ c at.
      let crate = entry_of r s ids ms t tables c p at in
      let among = contains_source (λ x. x.now) crate.0.implied.items d ((crate.1.says.implied d).0 (knows, has)) in
      let name = among.0 in
      subst (λ (x : Text). Follows t (LinkedFeature c w x)) among.2
      (by_rows t (LinkedReference c w v) (LinkedReference c w v ∷ []) (LinkedFeature c w name.now)
      (in_entry t (LinkedReference c w v) crate.0 _ crate.1.at
      (in_flat (λ x. linked_implied c w v x.now) crate.0.implied.items name _ among.1
      (in_if (turns_on v name.now) (LinkedReference c w v ∷ []) (LinkedFeature c w name.now) (turns_tells d name.now g among.2))))
      (each_one (Follows t) (LinkedReference c w v) (reference.follows (LinkedReference c w v) (p, at, refl)))))

  pub linked_toggled_covered : (e : Edge) (d : DependencyModel) (w : Meeting) (v : Reference) (g : Text) → Resolves r e d
      → TakesKind w e.kind → NamesFeatureOf v (declared_name d) g
      → Covered (means.LinkedReference e.parent w v ∷ []) (means.LinkedFeature e.child meetings.Dependency g)
  linked_toggled_covered e d w v g resolves takes names have =
      let reference = have (means.LinkedReference e.parent w v) (inl refl) in
      let link = link_resolved r s ids ms t tables e d resolves in
      let place = link.0 in
      let is = link.1 in
      let l = is.link in
      let named = named_tells v l.name.now g (subst (λ (x : Text). NamesFeatureOf v x g) (sym is.says.name) names) in
      let kind = takes_tells w l.kind (subst (TakesKind w) is.says.kind takes) in
      let begin = LinkedReference place.krate w v in
      let row = in_some (feature_named v l.name.now) g
      (λ x. rule_if (takes_kind w l.kind) (begin ∷ []) (LinkedFeature l.child meetings.Dependency x)) _ named
      (in_if (takes_kind w l.kind) (begin ∷ []) (LinkedFeature l.child meetings.Dependency g) kind) in
      numbers r s ids ms t (means.LinkedFeature e.child meetings.Dependency g) (LinkedFeature l.child meetings.Dependency g)
      (e.child, is.says.child, refl) (λ c at.
      subst (λ (x : ℕ). Follows t (LinkedFeature x meetings.Dependency g))
      (tables.ids_once l.child c e.child is.says.child at)
      (by_rows t begin (begin ∷ []) (LinkedFeature l.child meetings.Dependency g)
      (in_link t begin is.entry place.index l _ is.crate.at is.at row)
      (each_one (Follows t) begin (reference.follows begin (e.parent, is.crate.crate_at, refl)))))

  -- ---- dependencies that exist

  pub linked_covered : (e : Edge) (d : DependencyModel) (w : Meeting) → Resolves r e d → TakesKind w e.kind
      → Covered (means.Met e.parent w ∷ rules.if_optional d (means.LinkedName e.parent w (declared_name d))) (means.Linked e d)
  linked_covered e d w resolves takes have =
      let name = means.LinkedName e.parent w (declared_name d) in
      let met = have (means.Met e.parent w) (inl refl) in
      let link = link_resolved r s ids ms t tables e d resolves in
      numbers r s ids ms t (means.Linked e d) (Linked link.0) (e, d, link.1.means, refl) (λ place means_it.
      let is = link_here r s ids ms t tables place e d means_it in
      let l = is.link in
      let c = place.krate in
      let at = is.crate.crate_at in
      let kind = takes_tells w l.kind (subst (TakesKind w) is.says.kind takes) in
      let ps = if_optional l (LinkedName c w l.name.now) in
      let named = optional_follows r s ids ms t l.is_optional d.optional (LinkedName c w l.name.now) name is.says.optional
      (λ g m. have g (inr m))
      (λ h. h.follows (LinkedName c w l.name.now) (e.parent, at, ap (means.LinkedName e.parent w) (sym is.says.name))) in
      subst (λ (x : LinkPlace). Follows t (Linked x)) is.place_is
      (by_rows t (Met c w) (Met c w ∷ ps) (Linked l.place)
      (in_link t (Met c w) is.entry place.index l _ is.crate.at is.at
      (in_if (takes_kind w l.kind) (Met c w ∷ ps) (Linked l.place) kind))
      (each_more (Follows t) (Met c w) ps (met.follows (Met c w) (e.parent, at, refl)) named)))

  pub linked_met_covered : (e : Edge) (d : DependencyModel) → Covered (means.Linked e d ∷ []) (means.Met e.child meetings.Dependency)
  linked_met_covered e d have =
      let linked = have (means.Linked e d) (inl refl) in
      let at_place = linked_here r s ids ms t tables e d linked in
      let place = at_place.0 in
      let is = at_place.1 in
      let l = is.link in
      numbers r s ids ms t (means.Met e.child meetings.Dependency) (Met l.child meetings.Dependency) (e.child, is.says.child, refl) (λ c at.
      subst (λ (x : ℕ). Follows t (Met x meetings.Dependency)) (tables.ids_once l.child c e.child is.says.child at)
      (by_rows t (Linked place) (Linked place ∷ []) (Met l.child meetings.Dependency)
      (in_entry t (Linked place) is.entry _ is.crate.at
      (in_some (slice_get is.entry.links.items place.index) l (given_by_link place) _ is.at (here _ _)))
      (each_one (Follows t) (Linked place) (linked.follows (Linked place) (e, d, is.means, refl)))))

  pub linked_given_covered : (e : Edge) (d : DependencyModel) (g : Text) → GivesFeature r d e.child g
      → Covered (means.Linked e d ∷ []) (means.LinkedFeature e.child meetings.Dependency g)
  linked_given_covered e d g gives have =
      let linked = have (means.Linked e d) (inl refl) in
      let at_place = linked_here r s ids ms t tables e d linked in
      let place = at_place.0 in
      let is = at_place.1 in
      let l = is.link in
      let row = mapped_row (λ x. x.now) (λ x. rule (Linked place ∷ []) (LinkedFeature l.child meetings.Dependency x)) l.given.items g
      ((is.says.given g).0 gives) in
      numbers r s ids ms t (means.LinkedFeature e.child meetings.Dependency g) (LinkedFeature l.child meetings.Dependency g)
      (e.child, is.says.child, refl) (λ c at.
      subst (λ (x : ℕ). Follows t (LinkedFeature x meetings.Dependency g))
      (tables.ids_once l.child c e.child is.says.child at)
      (by_rows t (Linked place) (Linked place ∷ []) (LinkedFeature l.child meetings.Dependency g)
      (in_entry t (Linked place) is.entry _ is.crate.at
      (in_some (slice_get is.entry.links.items place.index) l (given_by_link place) _ is.at (there _ _ _ row)))
      (each_one (Follows t) (Linked place) (linked.follows (Linked place) (e, d, is.means, refl)))))

  -- ---- and those that are lost

  pub lost_covered : (p : Id) (d : DependencyModel) (w : Meeting) → LacksEdge r p d → TakesKind w d.kind
      → Covered (means.Met p w ∷ rules.if_optional d (means.LinkedName p w (declared_name d))) (means.Lost p d)
  lost_covered p d w lacks takes have =
      let name = means.LinkedName p w (declared_name d) in
      let met = have (means.Met p w) (inl refl) in
      let number = tables.packages p lacks.declared.pkg lacks.declared.has_package in
      let crate = entry_of r s ids ms t tables number.0 p number.1 in
      let one = crate.1.says.lacking.all d lacks in
      let first : LackingMeans ids t number.0 one.0 p d = record {
        entry = crate.0;
        entry_at = record { crate_at = crate.1.crate_at; at = crate.1.at };
        lacking = one.1;
        at = one.2;
        declared = one.3.declared;
      } in
      numbers r s ids ms t (means.Lost p d) (Lost number.0 one.0) (p, d, first, refl) (λ c index means_it.
      let is = lacking_here r s ids ms t tables c index p d means_it in
      let x = is.lacking in
      let at = is.crate.crate_at in
      let kind = takes_tells w x.kind (subst (TakesKind w) (sym is.says.kind) takes) in
      let named = optional_follows r s ids ms t x.is_optional d.optional (LinkedName c w x.name.now) name is.says.optional
      (λ g m. have g (inr m))
      (λ h. h.follows (LinkedName c w x.name.now) (p, at, ap (means.LinkedName p w) (sym is.says.name))) in
      subst (λ (k : ℕ). Follows t (Lost c k)) is.index_is (subst (λ (k : ℕ). Follows t (Lost k x.index)) is.krate
      (by_rows t (Met c w) _ (Lost x.krate x.index)
      (in_entry t (Met c w) is.entry _ is.crate.at
      (in_flat_at (lost c w) is.entry.lacking.items index x _ is.at (in_if (takes_kind w x.kind) _ (Lost x.krate x.index) kind)))
      (each_more (Follows t) (Met c w) _ (met.follows (Met c w) (p, at, refl)) named))))
