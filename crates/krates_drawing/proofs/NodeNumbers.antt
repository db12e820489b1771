-- The numbers of nodes: each node has its own.
use Rattle.std.proofs.Common.{◌≡◌, ◌⊎◌, inl, inr, ℕ, zero, suc, ◌+◌, ◌<◌, Bool, true, false, List, [], ◌∷◌, ◌++◌, length, map, option_map, Some, slice_get, cond, refl, sym, ap, ◌∙◌, subst, arith}
use Rattle.std.proofs.lemmas.Bool.{and_from, and_parts}
use Rattle.std.proofs.lemmas.Option.{slice_get-map, slice_get_within, same_Some}
use Rattle.std.specs.Cmp.Lexicographic.{bytes_decides}
use Rattle.std.specs.Str.{bytes_eq}
use Rattle.krates_cm.specs.Document.{Text}
use Rattle.krates_rules.specs.Facts.{Id}
use Rattle.krates_drawing.specs.Drawing.{id_eq, place_of, Endpoint, AtCrate, AtFeature, is_crate, is_feature, crate_number, feature_number, number, mapping, PlannedCrate, PlannedFeature, planned_crate, planned_feature, planned_nodes}
use Rattle.krates_drawing.specs.Outline.{CrateRow, FeatureRow, Outline}
use Rattle.krates_rules.proofs.Members.{Member}

-- ---- equal ids and names

pub text_is : (s t : Text) → bytes_eq s t ≡ true → s ≡ t
text_is s t e = (bytes_decides s t).0 e

pub text_same : (t : Text) → bytes_eq t t ≡ true
text_same t = (bytes_decides t t).1 refl

pub id_is : (a b : Id) → id_eq a b ≡ true → a ≡ b
id_is a b e =
    let outer = and_parts _ _ e in
    let inner = and_parts _ _ outer.1 in
    let name = text_is a.name b.name outer.0 in
    let version = text_is a.version b.version inner.0 in
    let source = text_is a.source b.source inner.1 in
    ap (λ (t : Text). record a { name = t }) name ∙ ap (λ (t : Text). record a { name = b.name; version = t }) version ∙ ap (λ (t : Text). record b { source = t }) source

pub id_same : (a : Id) → id_eq a a ≡ true
id_same a = and_from _ _ (text_same a.name) (and_from _ _ (text_same a.version) (text_same a.source))

-- ---- the crates and features of an outline

-- the crate is one of the outline
pub record HasCrate (t : Outline) (p : Id) : Type 0 where
  pub krate : CrateRow
  pub member : Member t.krates krate
  pub id : krate.id ≡ p

-- the feature is one of the outline
pub record HasFeature (t : Outline) (p : Id) (f : Text) : Type 0 where
  pub named : FeatureRow
  pub member : Member t.features named
  pub krate : named.krate ≡ p
  pub name : named.name ≡ f

pub feature_is : (q : Id) (f : Text) (n : FeatureRow) → is_feature q f n ≡ true → (n.krate ≡ q) × (n.name ≡ f)
feature_is q f n e = let w = and_parts _ _ e in (id_is n.krate q w.0, text_is n.name f w.1)

crate_passes : (t : Outline) (p : Id) (h : HasCrate t p) → is_crate p h.krate ≡ true
crate_passes t p h = subst (λ i. id_eq h.krate.id i ≡ true) h.id (id_same h.krate.id)

pub feature_passes : (t : Outline) (p : Id) (f : Text) (h : HasFeature t p f) → is_feature p f h.named ≡ true
feature_passes t p f h = and_from _ _ (subst (λ i. id_eq h.named.krate i ≡ true) h.krate (id_same h.named.krate)) (subst (λ x. bytes_eq h.named.name x ≡ true) h.name (text_same h.named.name))

-- ---- places

-- the first element that passes, at its place
pub record At {A : Type 0} (p : A → Bool) (xs : List A) : Type 0 where
  pub found : A
  pub member : Member xs found
  pub here : slice_get xs (place_of p xs) ≡ Some found
  pub passes : p found ≡ true

at_step : {A : Type 0} (p : A → Bool) (x : A) (xs : List A) (b : Bool) → p x ≡ b → (p x ≡ true) ⊎ At p xs
    → (y : A) × Member (x ∷ xs) y × (slice_get (x ∷ xs) (cond b 0 (suc (place_of p xs))) ≡ Some y) × (p y ≡ true)
at_step p x xs true e m = (x, inl refl, refl, e)
at_step p x xs false e (inl h) = absurd cc
at_step p x xs false e (inr w) = (w.found, inr w.member, w.here, w.passes)

pub at_place : {A : Type 0} (p : A → Bool) (xs : List A) (x : A) → Member xs x → p x ≡ true → At p xs
at_place p [] x m h = absurd m
at_place {A} p (y ∷ ys) x m h = found (at_step p y ys (p y) refl (elim m [ inl e ↦ inl (ap p e ∙ h) | inr k ↦ inr (at_place p ys x k h) ]))
  where
    found : (z : A) × Member (y ∷ ys) z × (slice_get (y ∷ ys) (place_of p (y ∷ ys)) ≡ Some z) × (p z ≡ true) → At p (y ∷ ys)
    found w = record { found = w.0; member = w.1; here = w.2; passes = w.3 }

-- ---- two lists, one after the other

pub get_left : {A : Type 0} (xs ys : List A) (k : ℕ) (a : A) → slice_get xs k ≡ Some a → slice_get (xs ++ ys) k ≡ Some a
get_left [] ys k a h = absurd cc
get_left (x ∷ xs) ys zero a h = h
get_left (x ∷ xs) ys (suc k) a h = get_left xs ys k a h

pub get_right : {A B : Type 0} (v : B → A) (xs : List B) (ys : List A) (k : ℕ) → slice_get (map v xs ++ ys) (length xs + k) ≡ slice_get ys k
get_right v [] ys k = let e : 0 + k ≡ k = omega arith in ap (slice_get ys) e
get_right v (x ∷ xs) ys k = let e : suc (length xs) + k ≡ suc (length xs + k) = omega arith in ap (slice_get (map v (x ∷ xs) ++ ys)) e ∙ get_right v xs ys k

-- ---- ends

-- the end is a node
pub data Stands (t : Outline) : Endpoint → Type 0 where
  crate_stands : {p : Id} → HasCrate t p → Stands t (AtCrate p)
  feature_stands : {p : Id} {f : Text} → HasFeature t p f → Stands t (AtFeature p f)

abbrev pub crate_end : CrateRow → Endpoint
crate_end k = AtCrate k.id

abbrev pub feature_end : FeatureRow → Endpoint
feature_end n = AtFeature n.krate n.name

-- what is drawn for each crate and for each feature is at its number
crate_at : {A : Type 0} (t : Outline) (of_crate : CrateRow → A) (of_feature : FeatureRow → A) (p : Id) → HasCrate t p → (k : CrateRow) × (k.id ≡ p) × Member t.krates k × (slice_get (map of_crate t.krates ++ map of_feature t.features) (crate_number t p) ≡ Some (of_crate k))
crate_at t of_crate of_feature p h =
    let w = at_place (is_crate p) t.krates h.krate h.member (crate_passes t p h) in
    (w.found, id_is w.found.id p w.passes, w.member, get_left (map of_crate t.krates) (map of_feature t.features) (crate_number t p) (of_crate w.found) (slice_get-map of_crate t.krates (crate_number t p) ∙ ap (option_map of_crate) w.here))

feature_at : {A : Type 0} (t : Outline) (of_crate : CrateRow → A) (of_feature : FeatureRow → A) (p : Id) (f : Text) → HasFeature t p f
    → (n : FeatureRow) × (n.krate ≡ p) × (n.name ≡ f) × (slice_get (map of_crate t.krates ++ map of_feature t.features) (feature_number t p f) ≡ Some (of_feature n))
feature_at t of_crate of_feature p f h =
    let w = at_place (is_feature p f) t.features h.named h.member (feature_passes t p f h) in
    let is = feature_is p f w.found w.passes in
    (w.found, is.0, is.1, get_right of_crate t.krates (map of_feature t.features) (place_of (is_feature p f) t.features) ∙ slice_get-map of_feature t.features (place_of (is_feature p f) t.features) ∙ ap (option_map of_feature) w.here)

-- the node of a kept crate
pub record CrateNode (t : Outline) (p : Id) : Type 0 where
  pub krate : CrateRow
  pub member : Member t.krates krate
  pub id : krate.id ≡ p
  pub at : slice_get (planned_nodes t) (crate_number t p) ≡ Some (PlannedCrate krate.id (mapping t krate))

pub crate_node : (t : Outline) (p : Id) → HasCrate t p → CrateNode t p
crate_node t p h = let w = crate_at t (planned_crate t) (planned_feature t) p h in record { krate = w.0; member = w.2; id = w.1; at = w.3 }

-- the node of an enabled feature
pub feature_node : (t : Outline) (p : Id) (f : Text) → HasFeature t p f → slice_get (planned_nodes t) (feature_number t p f) ≡ Some (PlannedFeature (crate_number t p) f)
feature_node t p f h =
    let w = feature_at t (planned_crate t) (planned_feature t) p f h in
    w.3 ∙ ap (λ i. Some (PlannedFeature (crate_number t i) w.0.name)) w.1 ∙ ap (λ x. Some (PlannedFeature (crate_number t p) x)) w.2

-- ---- different ends have different numbers

abbrev ends : Outline → List Endpoint
ends t = map crate_end t.krates ++ map feature_end t.features

end_at : (t : Outline) (e : Endpoint) → Stands t e → slice_get (ends t) (number t e) ≡ Some e
end_at t _ (crate_stands {p} h) = let w = crate_at t crate_end feature_end p h in w.3 ∙ ap (λ i. Some (AtCrate i)) w.1
end_at t _ (feature_stands {p} {f} h) =
    let w = feature_at t crate_end feature_end p f h in
    w.3 ∙ ap (λ i. Some (AtFeature i w.0.name)) w.1 ∙ ap (λ x. Some (AtFeature p x)) w.2

-- nodes with the same number are the same
pub one_number : (t : Outline) (a b : Endpoint) → Stands t a → Stands t b → number t a ≡ number t b → a ≡ b
one_number t a b sa sb e = same_Some a b (sym (end_at t a sa) ∙ ap (slice_get (ends t)) e ∙ end_at t b sb)

-- a node's number is below the number of nodes
pub number_below : (t : Outline) (e : Endpoint) → Stands t e → number t e < length (planned_nodes t)
number_below t _ (crate_stands {p} h) = let w = crate_node t p h in slice_get_within (planned_nodes t) (crate_number t p) _ w.at
number_below t _ (feature_stands {p} {f} h) = slice_get_within (planned_nodes t) (feature_number t p f) _ (feature_node t p f h)
