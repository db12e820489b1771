-- The simple references among the values of features, after one more value is looked at or one more name is added.
use Rattle.std.proofs.Common.{◌≡◌, ◌↔◌, ◌⊎◌, inl, inr, List, [], ◌∷◌, ◌++◌, Option, Some, None, Bool, true, false, cond, refl, sym, ap, ◌∙◌, subst, Contains}
use Rattle.std.specs.Str.{bytes_eq}
use Rattle.std.proofs.lemmas.List.Elements.{Contains-push, Contains-push_cases, Contains-append_left}
use Rattle.krates_cm.specs.Document.{Text, FeaturesModel}
use Rattle.krates_text.specs.FeatureReference.{IsReference, HasOneReading, simple, weak}
use Rattle.krates_ids.specs.Correction.{named, Features, Refers, dependency_reference}
use Rattle.krates_ids.proofs.CorrectionLemmas.{eq_from_true, true_from_eq}

-- a value that passes both tests is looked at and added
pub value_added : (names values : List Text) (value : Text) (Before P Q : Text → Type 0) → P value → Q value → (name : Text)
    → Contains names name ↔ (Before name ⊎ (Contains values name × P name × Q name))
    → Contains (names ++ value ∷ []) name ↔ (Before name ⊎ (Contains (values ++ value ∷ []) name × P name × Q name))
value_added names values value Before P Q p q name so_far = (
  λ c. elim (Contains-push_cases names value name c) [
    | inl old ↦ elim (so_far.0 old) [ inl b ↦ inl b | inr w ↦ inr (Contains-append_left values (value ∷ []) name w.0, w.1, w.2) ]
    | inr same ↦ inr (subst (Contains (values ++ value ∷ [])) same (Contains-push values value), subst P same p, subst Q same q)
  ],
  λ w. elim w [
    | inl b ↦ Contains-append_left names (value ∷ []) name (so_far.1 (inl b))
    | inr v ↦ elim (Contains-push_cases values value name v.0) [
      | inl old ↦ Contains-append_left names (value ∷ []) name (so_far.1 (inr (old, v.1, v.2)))
      | inr same ↦ subst (Contains (names ++ value ∷ [])) same (Contains-push names value)
    ]
  ],
)

-- a value that doesn't is looked at and passed over
pub value_passed : (names values : List Text) (value : Text) (Before P Q : Text → Type 0) → (P value → Q value → ⊥) → (name : Text)
    → Contains names name ↔ (Before name ⊎ (Contains values name × P name × Q name))
    → Contains names name ↔ (Before name ⊎ (Contains (values ++ value ∷ []) name × P name × Q name))
value_passed names values value Before P Q not_both name so_far = (
  λ c. elim (so_far.0 c) [ inl b ↦ inl b | inr w ↦ inr (Contains-append_left values (value ∷ []) name w.0, w.1, w.2) ],
  λ w. elim w [
    | inl b ↦ so_far.1 (inl b)
    | inr v ↦ elim (Contains-push_cases values value name v.0) [
      | inl old ↦ so_far.1 (inr (old, v.1, v.2))
      | inr same ↦ absurd (not_both (subst P (sym same) v.1) (subst Q (sym same) v.2))
    ]
  ],
)

-- the text is a value of some entry
abbrev pub HasValue : FeaturesModel → Text → Type 0
HasValue [] t = ⊥
HasValue (e ∷ es) t = Contains e.1 t ⊎ HasValue es t

-- what is in the first entry, or after it
value_in_front : (b : Bool) (e : Text × List Text) (es : FeaturesModel) (found : Option (List Text)) (values : List Text) (t : Text) → cond b (Some e.1) found ≡ Some values → Contains values t
    → (found ≡ Some values → HasValue es t) → HasValue (e ∷ es) t
value_in_front true e es found values t is among later = let same : e.1 ≡ values = cc in inl (subst (λ x. Contains x t) (sym same) among)
value_in_front false e es found values t is among later = inr (later is)

-- a value under some name is one of an entry
pub has_value : (es : FeaturesModel) (feature : Text) (values : List Text) (t : Text) → named es feature ≡ Some values → Contains values t → HasValue es t
has_value [] feature values t is among = absurd cc
has_value (e ∷ es) feature values t is among =
    value_in_front (bytes_eq feature e.0) e es (named es feature) values t is among (λ later. has_value es feature values t later among)

-- either of two equal values
either : (b : Bool) (q value : Text) (old : Option (List Text)) → (b ≡ true → q ≡ value) → old ≡ Some (dependency_reference q ∷ [])
    → cond b (Some (dependency_reference value ∷ [])) old ≡ Some (dependency_reference q ∷ [])
either true q value old same e = ap (λ n. Some (dependency_reference n ∷ [])) (sym (same refl))
either false q value old same e = e

-- the second value, where the test fails
other : {A : Type 0} (b : Bool) (x y : A) → (b ≡ true → ⊥) → cond b x y ≡ y
other true x y h = absurd (h refl)
other false x y h = refl

-- a name that was added is found, and so are those before it
pub reference_added : (names : List Text) (value : Text) (old new : Text → Option (List Text))
    → ((q : Text) → new q ≡ cond (bytes_eq q value) (Some (dependency_reference value ∷ [])) (old q))
    → ((q : Text) → Contains names q → old q ≡ Some (dependency_reference q ∷ []))
    → (q : Text) → Contains (names ++ value ∷ []) q → new q ≡ Some (dependency_reference q ∷ [])
reference_added names value old new put before q c =
    elim (Contains-push_cases names value q c) [
      | inl there ↦ put q ∙ either (bytes_eq q value) q value (old q) (eq_from_true q value) (before q there)
      | inr same ↦ put q ∙ rw (true_from_eq q value (sym same)) (ap (λ n. Some (dependency_reference n ∷ [])) same)
    ]

-- under any other name is what was there before
pub reference_kept : (names : List Text) (value : Text) (old new first : Text → Option (List Text))
    → ((q : Text) → new q ≡ cond (bytes_eq q value) (Some (dependency_reference value ∷ [])) (old q))
    → ((q : Text) → (Contains names q → ⊥) → old q ≡ first q)
    → (q : Text) → (Contains (names ++ value ∷ []) q → ⊥) → new q ≡ first q
reference_kept names value old new first put before q c =
    put q ∙ other (bytes_eq q value) (Some (dependency_reference value ∷ [])) (old q) (λ e. c (subst (Contains (names ++ value ∷ [])) (sym (eq_from_true q value e)) (Contains-push names value)))
    ∙ before q (λ there. c (Contains-append_left names (value ∷ []) q there))

-- a simple reference names its own text
pub simple_itself : (t u name : Text) → t ≡ u → IsReference t (simple name) → IsReference u (simple u)
simple_itself t u name same r = subst (λ v. IsReference v (simple v)) same (r.0, r.1, refl)

-- a weak reference isn't simple
pub weak_not_simple : (t u name enables : Text) → HasOneReading u → t ≡ u → IsReference t (weak name enables) → IsReference u (simple u) → ⊥
weak_not_simple t u name enables one same r s = let e = one.only (weak name enables) (subst (λ v. IsReference v (weak name enables)) same r) ∙ sym (one.only (simple u) s) in cc

-- the name is referred to and isn't a feature
abbrev pub IsReferred : Features → Text → Type 0
IsReferred features name = (features name ≡ None) × Refers features name

-- what one more entry adds
abbrev pub AddsReferred : Features → List Text → List Text → List Text → Type 0
AddsReferred features names values more = (name : Text) → Contains more name ↔ (Contains names name ⊎ (Contains values name × IsReference name (simple name) × (features name ≡ None)))

pub referred_sound : (features : Features) (names more : List Text) (key : Text) (values : List Text) → features key ≡ Some values → AddsReferred features names values more
    → ((name : Text) → Contains names name → IsReferred features name) → (name : Text) → Contains more name → IsReferred features name
referred_sound features names more key values is adds so_far name c =
    elim ((adds name).0 c) [
      | inl old ↦ so_far name old
      | inr v ↦ (v.2, record { feature = key; values = values; is = is; among = v.0; plain = v.1 })
    ]

pub referred_complete : (features : Features) (names more : List Text) (key : Text) (values : List Text) (left : FeaturesModel) → AddsReferred features names values more
    → ((name : Text) → IsReferred features name → Contains names name ⊎ HasValue ((key, values) ∷ left) name) → (name : Text) → IsReferred features name → Contains more name ⊎ HasValue left name
referred_complete features names more key values left adds so_far name r =
    elim (so_far name r) [
      | inl old ↦ inl ((adds name).1 (inl old))
      | inr there ↦ elim there [
        | inl here ↦ inl ((adds name).1 (inr (here, r.1.plain, r.0)))
        | inr later ↦ inr later
      ]
    ]
