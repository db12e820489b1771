-- The keys of numbered facts.
use Rattle.std.proofs.Common.{◌≡◌, ℕ, Option, Some, refl, sym, ap, ◌∙◌, subst, List}
use Rattle.std.proofs.lemmas.Option.{same_Some}
use Rattle.std.specs.List.{slice_get}
use Rattle.krates_cm.specs.Document.{Text}
use Rattle.krates_cm.specs.declared.dependency.DependencyKind.{DependencyKind}
use Rattle.krates_selection.specs.KeptFacts.{edge_in}
use Rattle.krates_selection.specs.Selection.{id_at}
use Rattle.krates_selection.specs.KeptTables.{IsEdgeIn, IsFeatureIn, IsKeyOf, IsNumberAt, document_in, kids_in}
use Rattle.krates_selection.specs.declared.key.KeptEdgeKey.{KeptEdgeKey}
use Rattle.krates_selection.specs.declared.key.KeptFactKey.TheVariants as keys
use Rattle.krates_selection.specs.declared.key.FeatureKey.{FeatureKey}
use Rattle.krates_selection.specs.declared.kept_tables.KeptTables.{KeptTables}
use Rattle.krates_ids.specs.Identity.{Identity}
use Rattle.krates_questions.specs.FeatureTable.{listed_features, FeatureAt}
use Rattle.krates_questions.specs.declared.lookup.NodePlace.{NodePlace}
use Rattle.krates_selection.specs.declared.trace.NumberedFact.TheVariants as numbered
use Rattle.krates_rules.specs.Facts.{Id, Edge, Crate, Feature, Kept, Toggled}
use Rattle.krates_rules.specs.Resolved.{NodeAt}

-- the feature of this number
pub feature_is : (t : KeptTables) (number place n : ℕ) (name : Text) (i : Id) (f : Text) → (at : FeatureAt (document_in t) i f number) → slice_get (listed_features (document_in t)) number ≡ Some (place, name)
    → ((j : Id) → NodeAt (document_in t) j place → id_at (kids_in t) n ≡ j) → (id_at (kids_in t) n ≡ i) × (name ≡ f)
feature_is t number place n name i f at here is =
    let e : (at.place, f) ≡ (place, name) = same_Some (at.place, f) (place, name) (sym at.at ∙ here) in
    let p : at.place ≡ place = ap (λ (x : ℕ × Text). x.0) e in
    (is i (subst (NodeAt (document_in t) i) p at.node), sym (ap (λ (x : ℕ × Text). x.1) e))

-- the edge with these parts
pub edge_same : (kids : List Identity) (p c : ℕ) (k : DependencyKind) (t : Option Text) (e : Edge) → id_at kids p ≡ e.parent → id_at kids c ≡ e.child → k ≡ e.kind → t ≡ e.cfg → Kept (edge_in kids p c k t) ≡ Kept e
edge_same kids p c k t e a b x y = rw (a, b, x, y) refl

pub key_crate : (t : KeptTables) (place : NodePlace) (n : ℕ) → IsNumberAt t place.index n → IsKeyOf t (numbered.Crate place) (keys.Crate n)
key_crate t place n h = record { is = λ f names. ap (λ (i : Id). Crate i) (h.is names.krate names.node) ∙ sym names.is; below = h.below }

pub key_feature : (t : KeptTables) (number : ℕ) (k : FeatureKey) → IsFeatureIn t number k → IsKeyOf t (numbered.Feature number) (keys.Feature k)
key_feature t number k h = record {
  is = λ f names. (
      let w = h.is names.krate names.name names.at in
      ap (λ (i : Id). Feature i k.name.now) w.0 ∙ ap (λ (n : Text). Feature names.krate n) w.1 ∙ sym names.is);
  below = h.below;
}

pub key_kept : (t : KeptTables) (place : NodePlace) (index kind : ℕ) (k : KeptEdgeKey) → IsEdgeIn t place.index index kind k → IsKeyOf t (numbered.Kept place index kind) (keys.Kept k)
key_kept t place index kind k h = record { is = λ f names. h.is names.edge names.at ∙ sym names.is; below = h.below }

pub key_toggled : (t : KeptTables) (place : NodePlace) (number n : ℕ) (k : FeatureKey) → IsNumberAt t place.index n → IsFeatureIn t number k → IsKeyOf t (numbered.Toggled place number) (keys.Toggled (record { by = n; feature = k }))
key_toggled t place number n k h g = record {
  is = λ f names. (
      let w = g.is names.krate names.name names.at in
      ap (λ (i : Id). Toggled i (id_at (kids_in t) k.krate) k.name.now) (h.is names.by names.node) ∙ ap (λ (i : Id). Toggled names.by i k.name.now) w.0 ∙ ap (λ (n : Text). Toggled names.by names.krate n) w.1 ∙ sym names.is);
  below = (h.below, g.below);
}
