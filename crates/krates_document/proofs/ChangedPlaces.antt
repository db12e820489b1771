-- A list that is changed place by place.
use Rattle.std.proofs.Common.{◌≡◌, ℕ, zero, suc, ◌+◌, ◌<◌, ◌≤◌, List, [], ◌∷◌, length, get_or, slice_set, refl, subst, arith}
use Rattle.std.specs.List.{AllZip}

-- the elements before this place are related to the old ones, and the others are the old ones
abbrev pub SoFar : {A : Type 0} → (A → A → Type 0) → ℕ → List A → List A → Type 0
SoFar R zero before after = after ≡ before
SoFar R (suc n) [] after = ⊥
SoFar R (suc n) (x ∷ before) [] = ⊥
SoFar R (suc n) (x ∷ before) (y ∷ after) = R x y × SoFar R n before after

-- none is changed yet
pub none_so_far : {A : Type 0} (R : A → A → Type 0) (before after : List A) → after ≡ before → SoFar R 0 before after
none_so_far R before after e = e

-- the element at the place is changed
pub one_more : {A : Type 0} (R : A → A → Type 0) (place : ℕ) (before after : List A) (x y : A) → SoFar R place before after → place < length after → R (get_or after place x) y
    → SoFar R (suc place) before (slice_set after place y)
one_more R zero before [] x y s within r = absurd (omega (arith, within))
one_more R zero before (z ∷ after) x y s within r = subst (λ l. SoFar R 1 l (y ∷ after)) s (r, refl)
one_more R (suc n) [] after x y s within r = absurd s
one_more R (suc n) (b ∷ before) [] x y s within r = absurd s
one_more R (suc n) (b ∷ before) (z ∷ after) x y s within r = (s.0, one_more R n before after x y s.1 (omega (arith, within)) r)

pub one_more_at : {A : Type 0} (R : A → A → Type 0) (place : ℕ) (before after : List A) (x y : A) → SoFar R place before after → place < length after → R (get_or after place x) y
    → SoFar R (place + 1) before (slice_set after place y)
one_more_at R place before after x y s within r = let next : suc place ≡ place + 1 = omega arith in subst (λ n. SoFar R n before (slice_set after place y)) next (one_more R place before after x y s within r)

-- all are changed
pub all_changed : {A : Type 0} (R : A → A → Type 0) (place : ℕ) (before after : List A) → SoFar R place before after → length after ≤ place → AllZip R before after
all_changed R zero [] [] s few = tt
all_changed R zero (b ∷ before) [] s few = absurd cc
all_changed R zero [] (z ∷ after) s few = absurd cc
all_changed R zero (b ∷ before) (z ∷ after) s few = absurd (omega (arith, few))
all_changed R (suc n) [] after s few = absurd s
all_changed R (suc n) (b ∷ before) [] s few = absurd s
all_changed R (suc n) (b ∷ before) (z ∷ after) s few = (s.0, all_changed R n before after s.1 (omega (arith, few)))
