-- Parts of lists by a property.
use Rattle.std.proofs.Common.{◌≡◌, ◌↔◌, List, [], ◌∷◌, ◌++◌, map, append_assoc, refl, inl, inr, sym, ap, ◌∙◌, subst}
use Rattle.std.proofs.lemmas.List.{append-nil}
use Rattle.krates_rules.proofs.Members.{Member}
use Rattle.krates_answers.specs.Those.{AddsThose, AreThose, none, takes, leaves}

pub AreThose-append : {A : Type 0} {P : A → Type 0} {all those more others : List A} → AreThose P all those → AreThose P more others → AreThose P (all ++ more) (those ++ others)
AreThose-append none h = h
AreThose-append (takes p t) h = takes p (AreThose-append t h)
AreThose-append (leaves n t) h = leaves n (AreThose-append t h)

-- one more that has the property
pub AreThose-snoc_takes : {A : Type 0} {P : A → Type 0} {all those : List A} {x : A} → AreThose P all those → P x → AreThose P (all ++ x ∷ []) (those ++ x ∷ [])
AreThose-snoc_takes before has = AreThose-append before (takes has none)

-- one more that hasn't
pub AreThose-snoc_leaves : {A : Type 0} {P : A → Type 0} {all those : List A} {x : A} → AreThose P all those → (P x → ⊥) → AreThose P (all ++ x ∷ []) those
AreThose-snoc_leaves none lacks = leaves lacks none
AreThose-snoc_leaves (takes first rest) lacks = takes first (AreThose-snoc_leaves rest lacks)
AreThose-snoc_leaves (leaves first rest) lacks = leaves first (AreThose-snoc_leaves rest lacks)

-- a property that is the same
pub AreThose-like : {A : Type 0} {P Q : A → Type 0} {all those : List A} → ((x : A) → P x ↔ Q x) → AreThose P all those → AreThose Q all those
AreThose-like same none = none
AreThose-like same (takes {x = x} p t) = takes ((same x).0 p) (AreThose-like same t)
AreThose-like same (leaves {x = x} n t) = leaves (λ q. n ((same x).1 q)) (AreThose-like same t)

-- those of those
pub AreThose-both : {A : Type 0} {P Q : A → Type 0} {all some those : List A} → AreThose P all some → AreThose Q some those → AreThose (λ x. P x × Q x) all those
AreThose-both none none = none
AreThose-both (takes p t) (takes q u) = takes (p, q) (AreThose-both t u)
AreThose-both (takes p t) (leaves n u) = leaves (λ h. n h.1) (AreThose-both t u)
AreThose-both (leaves n t) u = leaves (λ h. n h.0) (AreThose-both t u)

pub AreThose-map : {A B : Type 0} {P : B → Type 0} (f : A → B) {all those : List A} → AreThose (λ x. P (f x)) all those → AreThose P (map f all) (map f those)
AreThose-map f none = none
AreThose-map f (takes p t) = takes p (AreThose-map f t)
AreThose-map f (leaves n t) = leaves n (AreThose-map f t)

-- ---- what is added to a list

-- of one element, which has the property
pub AddsThose-takes : {A : Type 0} {P : A → Type 0} (x : A) (old new : List A) → P x → new ≡ old ++ x ∷ [] → AddsThose P (x ∷ []) old new
AddsThose-takes x old new p e = record { added = x ∷ []; appended = e; those = takes p none }

-- or doesn't have it
pub AddsThose-leaves : {A : Type 0} {P : A → Type 0} (x : A) (old : List A) → (P x → ⊥) → AddsThose P (x ∷ []) old old
AddsThose-leaves x old n = record { added = []; appended = sym (append-nil old); those = leaves n none }

pub AddsThose-none : {A : Type 0} {P : A → Type 0} (old : List A) → AddsThose P [] old old
AddsThose-none old = record { added = []; appended = sym (append-nil old); those = none }

-- of one list and then of another
pub AddsThose-append : {A : Type 0} {P : A → Type 0} {all more old now new : List A} → AddsThose P all old now → AddsThose P more now new → AddsThose P (all ++ more) old new
AddsThose-append {old = old} a b = record {
  added = a.added ++ b.added;
  appended = b.appended ∙ (ap (λ xs. xs ++ b.added) a.appended ∙ append_assoc old a.added b.added);
  those = AreThose-append a.those b.those;
}

-- those of one list are there already
pub AreThose-adds : {A : Type 0} {P : A → Type 0} {all more old new : List A} → AreThose P all old → AddsThose P more old new → AreThose P (all ++ more) new
AreThose-adds {P = P} {all = all} {more = more} before a = subst (AreThose P (all ++ more)) (sym a.appended) (AreThose-append before a.those)

-- ---- by element

-- a property that is the same of the elements
pub AreThose-alike : {A : Type 0} {P Q : A → Type 0} {all those : List A} → ((x : A) → Member all x → P x ↔ Q x) → AreThose P all those → AreThose Q all those
AreThose-alike same none = none
AreThose-alike same (takes {x = x} p t) = takes ((same x (inl refl)).0 p) (AreThose-alike (λ y m. same y (inr m)) t)
AreThose-alike same (leaves {x = x} n t) = leaves (λ q. n ((same x (inl refl)).1 q)) (AreThose-alike (λ y m. same y (inr m)) t)

-- an element with the property is taken
pub AreThose-has : {A : Type 0} {P : A → Type 0} {all those : List A} → AreThose P all those → (x : A) → Member all x → P x → Member those x
AreThose-has none x among p = absurd among
AreThose-has (takes q t) x (inl e) p = inl e
AreThose-has (takes q t) x (inr m) p = inr (AreThose-has t x m p)
AreThose-has {P = P} (leaves n t) x (inl e) p = absurd (n (subst P (sym e) p))
AreThose-has (leaves n t) x (inr m) p = AreThose-has t x m p

-- what is taken is an element
pub AreThose-among : {A : Type 0} {P : A → Type 0} {all those : List A} → AreThose P all those → (x : A) → Member those x → Member all x
AreThose-among none x taken = absurd taken
AreThose-among (takes q t) x (inl e) = inl e
AreThose-among (takes q t) x (inr m) = inr (AreThose-among t x m)
AreThose-among (leaves n t) x m = inr (AreThose-among t x m)

-- and has the property
pub AreThose-holds : {A : Type 0} {P : A → Type 0} {all those : List A} → AreThose P all those → (x : A) → Member those x → P x
AreThose-holds none x taken = absurd taken
AreThose-holds {P = P} (takes q t) x (inl e) = subst P e q
AreThose-holds (takes q t) x (inr m) = AreThose-holds t x m
AreThose-holds (leaves n t) x m = AreThose-holds t x m

-- there is one such part of a list
pub AreThose-once : {A : Type 0} {P : A → Type 0} {all those others : List A} → AreThose P all those → AreThose P all others → those ≡ others
AreThose-once none none = refl
AreThose-once (takes {x = x} p t) (takes q u) = ap (λ xs. x ∷ xs) (AreThose-once t u)
AreThose-once (takes p t) (leaves n u) = absurd (n p)
AreThose-once (leaves n t) (takes q u) = absurd (n q)
AreThose-once (leaves n t) (leaves m u) = AreThose-once t u
