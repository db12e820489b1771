-- Lists by their entries.
use Rattle.std.proofs.Common.{◌≡◌, ℕ, zero, suc, ◌+◌, ◌<◌, ◌≤◌, List, [], ◌∷◌, length, map, Option, Some, None, option_map, set, slice_get, replicate, refl, sym, ap, ◌∙◌, arith}
use Rattle.std.proofs.lemmas.Option.{none-some, same_Some}
use Rattle.std.specs.List.{range_with_len}

-- lists with the same entries are the same
pub same_entries : {A : Type 0} (xs ys : List A) → ((k : ℕ) → slice_get xs k ≡ slice_get ys k) → xs ≡ ys
same_entries [] [] h = refl
same_entries {A} [] (y ∷ ys) h = absurd (none-some y (h 0))
same_entries {A} (x ∷ xs) [] h = absurd (none-some x (sym (h 0)))
same_entries {A} (x ∷ xs) (y ∷ ys) h = ap (λ (z : A). z ∷ xs) (same_Some x y (h 0)) ∙ ap (λ l. y ∷ l) (same_entries xs ys (λ k. h (suc k)))

-- if each element is changed, so is each entry
pub entries_changed : {A : Type 0} (f g : ℕ → A) (change : ℕ → A → A) → ((k : ℕ) → g k ≡ change k (f k)) → (a n k : ℕ)
    → slice_get (map g (range_with_len a n)) k ≡ option_map (change (a + k)) (slice_get (map f (range_with_len a n)) k)
entries_changed f g change h a zero k = refl
entries_changed f g change h a (suc n) zero = let e : a + 0 ≡ a = omega arith in ap Some (h a) ∙ ap (λ j. Some (change j (f a))) (sym e)
entries_changed f g change h a (suc n) (suc k) = let e : (a + 1) + k ≡ a + suc k = omega arith in entries_changed f g change h (a + 1) n k ∙ ap (λ j. option_map (change j) (slice_get (map f (range_with_len (a + 1) n)) k)) e

-- if all elements are the same
pub all_alike : {A : Type 0} (f : ℕ → A) (v : A) → ((k : ℕ) → f k ≡ v) → (a n : ℕ) → replicate n v ≡ map f (range_with_len a n)
all_alike f v h a zero = refl
all_alike f v h a (suc n) = ap (λ x. x ∷ replicate n v) (sym (h a)) ∙ ap (λ l. f a ∷ l) (all_alike f v h (a + 1) n)

same_entry : {A : Type 0} (f : A → A) (o : Option A) → ((x : A) → f x ≡ x) → o ≡ option_map f o
same_entry f None same = refl
same_entry f (Some x) same = ap Some (sym (same x))

-- if one element alone is changed
pub entry_changed : {A : Type 0} (change : ℕ → A → A) (xs : List A) (k : ℕ) (y : A) → k < length xs → ((x : A) → change k x ≡ y) → ((j : ℕ) → (j ≡ k → ⊥) → (x : A) → change j x ≡ x)
    → (j : ℕ) → slice_get (set xs k y) j ≡ option_map (change j) (slice_get xs j)
entry_changed change [] k y lt here others j = absurd (omega (arith, lt))
entry_changed change (x ∷ xs) zero y lt here others zero = ap Some (sym (here x))
entry_changed change (x ∷ xs) zero y lt here others (suc j) = same_entry (change (suc j)) (slice_get xs j) (others (suc j) (λ e. omega (arith, e)))
entry_changed change (x ∷ xs) (suc k) y lt here others zero = ap Some (sym (others zero (λ e. omega (arith, e)) x))
entry_changed change (x ∷ xs) (suc k) y lt here others (suc j) = entry_changed (λ i. change (suc i)) xs k y (omega (arith, lt)) here (λ i apart. others (suc i) (λ e. apart (omega (arith, e)))) j

-- or none
pub entries_kept : {A : Type 0} (change : ℕ → A → A) (xs : List A) (k : ℕ) → length xs ≤ k → ((j : ℕ) → (j ≡ k → ⊥) → (x : A) → change j x ≡ x) → (j : ℕ) → slice_get xs j ≡ option_map (change j) (slice_get xs j)
entries_kept change [] k past others j = refl
entries_kept change (x ∷ xs) zero past others j = absurd (omega (arith, past))
entries_kept change (x ∷ xs) (suc k) past others zero = ap Some (sym (others zero (λ e. omega (arith, e)) x))
entries_kept change (x ∷ xs) (suc k) past others (suc j) = entries_kept (λ i. change (suc i)) xs k (omega (arith, past)) (λ i apart. others (suc i) (λ e. apart (omega (arith, e)))) j
