-- What the lists of an outline hold, by derivations.
use Rattle.std.proofs.Common.{◌≡◌, ◌↔◌, inl, inr, List, map, Contains, refl}
use Rattle.std.proofs.lemmas.List.Elements.{All-contains}
use Rattle.krates_cm.specs.Document.{Text}
use Rattle.krates_rules.specs.Derivation.{Derivable}
use Rattle.krates_rules.specs.Facts.{Id, Edge, Cause, Fact, Crate, Feature, Kept, Toggled, Lost}
use Rattle.krates_rules.specs.Questions.{questions}
use Rattle.krates_rules.specs.Resolved.{Resolved}
use Rattle.krates_rules.specs.Setting.{SettingModel}
use Rattle.krates_drawing.specs.Outline.{CrateRow, IsCrateRow, EdgeRow, IsEdgeRow, FeatureRow, IsFeatureRow, Toggle, Outline, IsOutline, outlined_facts}
use Rattle.krates_rules.proofs.Members.{Member, member_of, contains_of, member_append, member_left, member_right, mapped_of, member_map}
use Rattle.krates_drawing.proofs.NodeNumbers.{HasCrate, HasFeature}

-- the link of a kept edge
pub record LinkOf (t : Outline) (e : Edge) : Type 0 where
  pub link : EdgeRow
  pub member : Member t.links link
  pub is : link.edge ≡ e

-- a toggled feature of the outline
pub record ToggleOf (t : Outline) (p q : Id) (f : Text) : Type 0 where
  pub toggle : Toggle
  pub member : Member t.toggled toggle
  pub is : toggle ≡ record { by = p; krate = q; name = f }

-- the lists hold exactly what is derivable
pub record Holds (r : Resolved) (s : SettingModel) (t : Outline) : Type 0 where
  pub crate_in : (p : Id) → Derivable (questions r s) (Crate p) → HasCrate t p
  pub crate_of : (k : CrateRow) → Member t.krates k → Derivable (questions r s) (Crate k.id)
  pub count_of : (k : CrateRow) → Member t.krates k → IsCrateRow r k
  pub link_in : (e : Edge) → Derivable (questions r s) (Kept e) → LinkOf t e
  pub link_of : (l : EdgeRow) → Member t.links l → Derivable (questions r s) (Kept l.edge)
  pub edge_of : (l : EdgeRow) → Member t.links l → IsEdgeRow r s l
  pub feature_in : (p : Id) (f : Text) → Derivable (questions r s) (Feature p f) → HasFeature t p f
  pub feature_of : (n : FeatureRow) → Member t.features n → Derivable (questions r s) (Feature n.krate n.name)
  pub named_of : (n : FeatureRow) → Member t.features n → IsFeatureRow r s.all_named n
  pub toggle_in : (p q : Id) (f : Text) → Derivable (questions r s) (Toggled p q f) → ToggleOf t p q f
  pub toggle_of : (g : Toggle) → Member t.toggled g → Derivable (questions r s) (Toggled g.by g.krate g.name)
  pub none_lost : (c : Cause) → Derivable (questions r s) (Lost c) → ⊥

-- ---- the four lists

-- the facts of each list
abbrev pub crate_facts : Outline → List Fact
crate_facts t = map (λ (k : CrateRow). Crate k.id) t.krates

abbrev pub link_facts : Outline → List Fact
link_facts t = map (λ (l : EdgeRow). Kept l.edge) t.links

abbrev pub feature_facts : Outline → List Fact
feature_facts t = map (λ (n : FeatureRow). Feature n.krate n.name) t.features

abbrev pub toggled_facts : Outline → List Fact
toggled_facts t = map (λ (g : Toggle). Toggled g.by g.krate g.name) t.toggled

-- the fact belongs to an element of one of the lists
data From (t : Outline) (f : Fact) : Type 0 where
  from_crate : (k : CrateRow) → Member t.krates k → Crate k.id ≡ f → From t f
  from_link : (l : EdgeRow) → Member t.links l → Kept l.edge ≡ f → From t f
  from_feature : (n : FeatureRow) → Member t.features n → Feature n.krate n.name ≡ f → From t f
  from_toggled : (g : Toggle) → Member t.toggled g → Toggled g.by g.krate g.name ≡ f → From t f

from_of : (t : Outline) (f : Fact) → Contains (outlined_facts t) f → From t f
from_of t f m = elim (member_append (crate_facts t) _ f (member_of (outlined_facts t) f m)) [
  | inl here ↦ (let w = mapped_of (λ (k : CrateRow). Crate k.id) t.krates f here in from_crate w.from w.member w.is)
  | inr more ↦ elim (member_append (link_facts t) _ f more) [
    | inl here ↦ (let w = mapped_of (λ (l : EdgeRow). Kept l.edge) t.links f here in from_link w.from w.member w.is)
    | inr rest ↦ elim (member_append (feature_facts t) _ f rest) [
      | inl here ↦ (let w = mapped_of (λ (n : FeatureRow). Feature n.krate n.name) t.features f here in from_feature w.from w.member w.is)
      | inr there ↦ (let w = mapped_of (λ (g : Toggle). Toggled g.by g.krate g.name) t.toggled f there in from_toggled w.from w.member w.is)
    ]
  ]
]

crate_there : (t : Outline) (k : CrateRow) → Member t.krates k → Contains (outlined_facts t) (Crate k.id)
crate_there t k m = contains_of (outlined_facts t) (Crate k.id) (member_left (crate_facts t) _ (Crate k.id) (member_map (λ (k : CrateRow). Crate k.id) t.krates k m))

link_there : (t : Outline) (l : EdgeRow) → Member t.links l → Contains (outlined_facts t) (Kept l.edge)
link_there t l m = contains_of (outlined_facts t) (Kept l.edge)
    (member_right (crate_facts t) _ (Kept l.edge) (member_left (link_facts t) _ (Kept l.edge) (member_map (λ (l : EdgeRow). Kept l.edge) t.links l m)))

feature_there : (t : Outline) (n : FeatureRow) → Member t.features n → Contains (outlined_facts t) (Feature n.krate n.name)
feature_there t n m = contains_of (outlined_facts t) (Feature n.krate n.name)
    (member_right (crate_facts t) _ (Feature n.krate n.name) (member_right (link_facts t) _ (Feature n.krate n.name)
    (member_left (feature_facts t) _ (Feature n.krate n.name) (member_map (λ (n : FeatureRow). Feature n.krate n.name) t.features n m))))

toggled_there : (t : Outline) (g : Toggle) → Member t.toggled g → Contains (outlined_facts t) (Toggled g.by g.krate g.name)
toggled_there t g m = contains_of (outlined_facts t) (Toggled g.by g.krate g.name)
    (member_right (crate_facts t) _ (Toggled g.by g.krate g.name) (member_right (link_facts t) _ (Toggled g.by g.krate g.name)
    (member_right (feature_facts t) _ (Toggled g.by g.krate g.name) (member_map (λ (g : Toggle). Toggled g.by g.krate g.name) t.toggled g m))))

-- ---- by the kind of fact

crate_from : (t : Outline) (p : Id) → From t (Crate p) → HasCrate t p
crate_from t p (from_crate k m e) = record { krate = k; member = m; id = cc e }
crate_from t p (from_link a m e) = absurd (cc e)
crate_from t p (from_feature a m e) = absurd (cc e)
crate_from t p (from_toggled a m e) = absurd (cc e)

link_from : (t : Outline) (e : Edge) → From t (Kept e) → LinkOf t e
link_from t e (from_crate k m f) = absurd (cc f)
link_from t e (from_link l m f) = record { link = l; member = m; is = cc f }
link_from t e (from_feature a m f) = absurd (cc f)
link_from t e (from_toggled a m f) = absurd (cc f)

feature_from : (t : Outline) (p : Id) (f : Text) → From t (Feature p f) → HasFeature t p f
feature_from t p f (from_crate k m e) = absurd (cc e)
feature_from t p f (from_link a m e) = absurd (cc e)
feature_from t p f (from_feature n m e) = record { named = n; member = m; krate = cc e; name = cc e }
feature_from t p f (from_toggled a m e) = absurd (cc e)

pub same_toggle : (i p j q : Id) (f g : Text) → i ≡ p → j ≡ q → f ≡ g → (let a : Toggle = record { by = i; krate = j; name = f } in a) ≡ record { by = p; krate = q; name = g }
same_toggle i p j q f g a b c = rw (a, b, c) refl

toggle_from : (t : Outline) (p q : Id) (f : Text) → From t (Toggled p q f) → ToggleOf t p q f
toggle_from t p q f (from_crate k m e) = absurd (cc e)
toggle_from t p q f (from_link a m e) = absurd (cc e)
toggle_from t p q f (from_feature a m e) = absurd (cc e)
toggle_from t p q f (from_toggled g m e) = record { toggle = g; member = m; is = same_toggle g.by p g.krate q g.name f (cc e) (cc e) (cc e) }

none_lost_from : (t : Outline) (c : Cause) → From t (Lost c) → ⊥
none_lost_from t c (from_crate k m e) = cc e
none_lost_from t c (from_link a m e) = cc e
none_lost_from t c (from_feature a m e) = cc e
none_lost_from t c (from_toggled a m e) = cc e

-- ---- the outline

-- the facts of its lists are derivable, and no others
module _ (r : Resolved) (s : SettingModel) (t : Outline) (facts : (f : Fact) → Derivable (questions r s) f ↔ Contains (outlined_facts t) f) where
  pub crate_kept : (k : CrateRow) → Member t.krates k → Derivable (questions r s) (Crate k.id)
  crate_kept k m = (facts (Crate k.id)).1 (crate_there t k m)

  pub link_kept : (l : EdgeRow) → Member t.links l → Derivable (questions r s) (Kept l.edge)
  link_kept l m = (facts (Kept l.edge)).1 (link_there t l m)

  pub feature_enabled : (n : FeatureRow) → Member t.features n → Derivable (questions r s) (Feature n.krate n.name)
  feature_enabled n m = (facts (Feature n.krate n.name)).1 (feature_there t n m)

pub holds : (r : Resolved) (s : SettingModel) (t : Outline) → IsOutline r s t → Holds r s t
holds r s t h = record {
  crate_in = λ p d. crate_from t p (from_of t (Crate p) ((h.facts (Crate p)).0 d));
  crate_of = crate_kept r s t h.facts;
  count_of = λ k m. All-contains (IsCrateRow r) t.krates k h.krates (contains_of t.krates k m);
  link_in = λ e d. link_from t e (from_of t (Kept e) ((h.facts (Kept e)).0 d));
  link_of = link_kept r s t h.facts;
  edge_of = λ l m. All-contains (IsEdgeRow r s) t.links l h.links (contains_of t.links l m);
  feature_in = λ p f d. feature_from t p f (from_of t (Feature p f) ((h.facts (Feature p f)).0 d));
  feature_of = feature_enabled r s t h.facts;
  named_of = λ n m. All-contains (IsFeatureRow r s.all_named) t.features n h.features (contains_of t.features n m);
  toggle_in = λ p q f d. toggle_from t p q f (from_of t (Toggled p q f) ((h.facts (Toggled p q f)).0 d));
  toggle_of = λ g m. (h.facts (Toggled g.by g.krate g.name)).1 (toggled_there t g m);
  none_lost = λ c d. none_lost_from t c (from_of t (Lost c) ((h.facts (Lost c)).0 d));
}
