-- What is at a place of a list that grows, or in which one place is overwritten.
use Rattle.std.proofs.Common.{◌≡◌, ◌≢◌, ◌⊎◌, inl, inr, ℕ, zero, suc, ◌<◌, List, [], ◌∷◌, ◌++◌, Some, get_or, length, arith, refl, sym, ap}
use Rattle.std.proofs.Math.ListN.{set}
use Rattle.std.proofs.lemmas.Option.{same_Some, slice_get-get_or}
use Rattle.std.specs.List.{AllZip, slice_get}

pub grown : {A : Type 0} (xs more : List A) (k : ℕ) (x : A) → slice_get xs k ≡ Some x → slice_get (xs ++ more) k ≡ Some x
grown [] more k x at = absurd cc
grown (y ∷ ys) more zero x at = at
grown (y ∷ ys) more (suc k) x at = grown ys more k x at

pub end_of : {A : Type 0} (xs : List A) (y : A) → slice_get (xs ++ y ∷ []) (length xs) ≡ Some y
end_of [] y = refl
end_of (x ∷ xs) y = end_of xs y

pub last_of : {A : Type 0} (xs : List A) (y : A) (k : ℕ) (x : A) → slice_get (xs ++ y ∷ []) k ≡ Some x → (slice_get xs k ≡ Some x) ⊎ ((k ≡ length xs) × (x ≡ y))
last_of [] y zero x at = inr (refl, sym (same_Some y x at))
last_of [] y (suc k) x at = absurd cc
last_of (z ∷ zs) y zero x at = inl at
last_of (z ∷ zs) y (suc k) x at = elim (last_of zs y k x at) [ inl h ↦ inl h | inr h ↦ inr (ap suc h.0, h.1) ]

pub set_here : {A : Type 0} (xs : List A) (i : ℕ) (x : A) → i < length xs → slice_get (set xs i x) i ≡ Some x
set_here [] i x lt = absurd (omega (arith, lt))
set_here (y ∷ ys) zero x lt = refl
set_here (y ∷ ys) (suc i) x lt = set_here ys i x (omega (arith, lt))

pub set_there : {A : Type 0} (xs : List A) (i k : ℕ) (x : A) → k ≢ i → slice_get (set xs i x) k ≡ slice_get xs k
set_there [] i k x other = refl
set_there (y ∷ ys) zero zero x other = absurd (other refl)
set_there (y ∷ ys) zero (suc k) x other = refl
set_there (y ∷ ys) (suc i) zero x other = refl
set_there (y ∷ ys) (suc i) (suc k) x other = set_there ys i k x (λ e. other (ap suc e))

-- there is something at a place of a list
pub there_is : {A : Type 0} (xs : List A) (i : ℕ) → i < length xs → (x : A) × (slice_get xs i ≡ Some x)
there_is [] i lt = absurd (omega (arith, lt))
there_is (x ∷ xs) i lt = (get_or (x ∷ xs) i x, slice_get-get_or (x ∷ xs) i x lt)

pub zip_append : {A B : Type 0} (R : A → B → Type 0) (xs zs : List A) (ys ws : List B) → AllZip R xs ys → AllZip R zs ws → AllZip R (xs ++ zs) (ys ++ ws)
zip_append R [] zs [] ws h more = more
zip_append R [] zs (y ∷ ys) ws h more = absurd h
zip_append R (x ∷ xs) zs [] ws h more = absurd h
zip_append R (x ∷ xs) zs (y ∷ ys) ws h more = (h.0, zip_append R xs zs ys ws h.1 more)
