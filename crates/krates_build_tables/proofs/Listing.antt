-- Lists that a loop makes of what each element of another list gives.
use Rattle.std.proofs.Common.{◌≡◌, ◌↔◌, ℕ, ◌+◌, ◌<◌, ◌≤◌, List, [], ◌∷◌, ◌++◌, length, get_or, take, map, Contains, sym, ap, ◌∙◌, subst, inl, inr, arith, Bool, IsTrue, ◌==◌, eqb-true, eq-eqb}
use Rattle.std.proofs.lemmas.Bool.{cases_lt}
use Rattle.std.proofs.lemmas.List.{length-map, map-append, nil_from_length, take_more, take_all}
use Rattle.std.proofs.lemmas.List.Elements.{Contains-append_left, Contains-append_right, Contains-append_cases, Contains-push, Contains-push_cases}

-- an element of the list gives this
abbrev pub Reached : {A B : Type 0} → (A → B → Type 0) → List A → B → Type 0
Reached {A} T xs b = (a : A) × Contains xs a × T a b

-- the second list has exactly what the elements of the first give
abbrev pub Lists : {A B : Type 0} → (A → B → Type 0) → List A → List B → Type 0
Lists {A} {B} T xs outs = (b : B) → Reached T xs b ↔ Contains outs b

pub lists_none : {A B : Type 0} (T : A → B → Type 0) → Lists T [] []
lists_none T b = (λ h. absurd (omega (arith, h.1.1)), λ h. absurd (omega (arith, h.1)))

only : {A : Type 0} (x y : A) → Contains (x ∷ []) y → x ≡ y
only x y h = elim (Contains-push_cases [] x y h) [ inl none ↦ absurd (omega (arith, none.1)) | inr e ↦ e ]

-- one more element, with all that it gives
pub lists_more : {A B : Type 0} (T : A → B → Type 0) (xs : List A) (outs added : List B) (a : A) → ((b : B) → T a b ↔ Contains added b) → Lists T xs outs → Lists T (xs ++ a ∷ []) (outs ++ added)
lists_more T xs outs added a gives so_far b = (
  λ h. elim (Contains-append_cases xs (a ∷ []) h.0 h.1) [
    | inl old ↦ Contains-append_left outs added b ((so_far b).0 (h.0, old, h.2))
    | inr new ↦ Contains-append_right outs added b ((gives b).0 (subst (λ x. T x b) (sym (only a h.0 new)) h.2))
  ],
  λ h. elim (Contains-append_cases outs added b h) [
    | inl old ↦ (let w = (so_far b).1 old in (w.0, Contains-append_left xs (a ∷ []) w.0 w.1, w.2))
    | inr new ↦ (a, Contains-push xs a, (gives b).1 new)
  ],
)

-- it gives one thing
pub gives_one : {A B : Type 0} (T : A → B → Type 0) (a : A) (y : B) → T a y → ((b : B) → T a b → y ≡ b) → (b : B) → T a b ↔ Contains (y ∷ []) b
gives_one T a y here alone b = (
  λ t. subst (Contains (y ∷ [])) (alone b t) (Contains-push [] y),
  λ h. subst (T a) (only y b h) here,
)

-- it gives nothing
pub gives_none : {A B : Type 0} (T : A → B → Type 0) (a : A) → ((b : B) → T a b → ⊥) → (b : B) → T a b ↔ Contains [] b
gives_none T a none b = (λ t. absurd (none b t), λ h. absurd (omega (arith, h.1)))

-- one more item of a list that is gone over
pub taken_next : {X A : Type 0} (v : X → A) (xs : List X) (i : ℕ) (x : X) → i < length xs → x ≡ get_or xs i x → map v (take (i + 1) xs) ≡ map v (take i xs) ++ v x ∷ []
taken_next v xs i x lt is =
    let more : take (i + 1) xs ≡ take i xs ++ x ∷ [] = take_more xs i x lt ∙ ap (λ z. take i xs ++ z ∷ []) (sym is) in
    ap (map v) more ∙ map-append v (take i xs) (x ∷ [])

-- the list as far as it was gone over, and what the item at hand adds
pub lists_next : {X A B : Type 0} (T : A → B → Type 0) (v : X → A) (xs : List X) (i : ℕ) (x : X) (outs added new : List B) → i < length xs → x ≡ get_or xs i x
    → ((b : B) → T (v x) b ↔ Contains added b) → new ≡ outs ++ added → Lists T (map v (take i xs)) outs → Lists T (map v (take (i + 1) xs)) new
lists_next T v xs i x outs added new lt is gives grown so_far =
    rw (taken_next v xs i x lt is, grown) (lists_more T (map v (take i xs)) outs added (v x) gives so_far)

pub lists_all : {X A B : Type 0} (T : A → B → Type 0) (v : X → A) (xs : List X) (i : ℕ) (outs : List B) → length xs ≤ i → Lists T (map v (take i xs)) outs → Lists T (map v xs) outs
lists_all T v xs i outs le h = subst (λ zs. Lists T (map v zs) outs) (take_all i xs le) h

-- the item at hand gives one thing more
pub lists_put : {X A B Y : Type 0} (T : A → B → Type 0) (v : X → A) (w : Y → B) (xs : List X) (i : ℕ) (x : X) (outs : List Y) (y : Y) (new : List Y) → i < length xs → x ≡ get_or xs i x
    → T (v x) (w y) → ((b : B) → T (v x) b → w y ≡ b) → new ≡ outs ++ y ∷ [] → Lists T (map v (take i xs)) (map w outs) → Lists T (map v (take (i + 1) xs)) (map w new)
lists_put T v w xs i x outs y new lt is here alone grown so_far =
    lists_next T v xs i x (map w outs) (w y ∷ []) (map w new) lt is (gives_one T (v x) (w y) here alone) (ap (map w) grown ∙ map-append w outs (y ∷ [])) so_far

-- it gives nothing
pub lists_kept : {X A B : Type 0} (T : A → B → Type 0) (v : X → A) (xs : List X) (i : ℕ) (x : X) (outs : List B) → i < length xs → x ≡ get_or xs i x
    → ((b : B) → T (v x) b → ⊥) → Lists T (map v (take i xs)) outs → Lists T (map v (take (i + 1) xs)) outs
lists_kept T v xs i x outs lt is none so_far = rw (taken_next v xs i x lt is) (λ b. (
  λ h. elim (Contains-append_cases (map v (take i xs)) (v x ∷ []) h.0 h.1) [
    | inl old ↦ (so_far b).0 (h.0, old, h.2)
    | inr here ↦ absurd (none b (subst (λ a. T a b) (sym (only (v x) h.0 here)) h.2))
  ],
  λ h. (let w = (so_far b).1 h in (w.0, Contains-append_left (map v (take i xs)) (v x ∷ []) w.0 w.1, w.2)),
))

-- the list has exactly what the numbers below n give
abbrev pub ListsBelow : {B : Type 0} → (ℕ → B → Type 0) → ℕ → List B → Type 0
ListsBelow {B} T n outs = (b : B) → ((k : ℕ) × (k < n) × T k b) ↔ Contains outs b

pub below_zero : {B : Type 0} (T : ℕ → B → Type 0) → ListsBelow T 0 []
below_zero T b = (λ h. absurd (omega (arith, h.1)), λ h. absurd (omega (arith, h.1)))

pub below_next : {B : Type 0} (T : ℕ → B → Type 0) (n : ℕ) (outs added new : List B) → ((b : B) → T n b ↔ Contains added b) → new ≡ outs ++ added → ListsBelow T n outs → ListsBelow T (n + 1) new
below_next T n outs added new gives grown so_far = rw grown (λ b. (
  λ h. elim (cases_lt h.0 n) [
    | inl lt ↦ Contains-append_left outs added b ((so_far b).0 (h.0, lt, h.2))
    | inr le ↦ (
        let lt = h.1 in
        let e : h.0 ≡ n = omega (arith, lt, le) in
        Contains-append_right outs added b ((gives b).0 (subst (λ k. T k b) e h.2)))
  ],
  λ h. elim (Contains-append_cases outs added b h) [
    | inl old ↦ (let w = (so_far b).1 old in (w.0, omega (arith, w.1), w.2))
    | inr here ↦ (n, omega arith, (gives b).1 here)
  ],
))

-- a test of the length tells whether the views are none
pub empty_told : {A B : Type 0} (f : A → B) (xs : List A) (n : ℕ) (b : Bool) → length xs ≡ n → b ≡ (n == 0) → IsTrue b ↔ (map f xs ≡ [])
empty_told f xs n b long is = (
  λ t. ap (map f) (nil_from_length xs (long ∙ eqb-true n 0 (sym is ∙ t))),
  λ e. is ∙ eq-eqb n 0 (sym long ∙ sym (length-map xs f) ∙ ap length e),
)
