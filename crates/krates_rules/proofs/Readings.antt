-- Lists that are read place by place.
use Rattle.std.proofs.Common.{◌≡◌, ℕ, zero, suc, List, [], ◌∷◌, Some, refl, subst}
use Rattle.std.specs.List.{AllZip, slice_get}
use Rattle.krates_cm.specs.Document.{Text}
use Rattle.krates_ids.specs.Identity.{Identity, Reads}

-- what is at the same place of the first list
pub left_of : {A B : Type 0} (R : A → B → Type 0) (xs : List A) (ys : List B) (k : ℕ) (y : B) → AllZip R xs ys → slice_get ys k ≡ Some y → (x : A) × (slice_get xs k ≡ Some x) × R x y
left_of R [] [] k y z h = absurd cc
left_of R [] (b ∷ ys) k y z h = absurd z
left_of R (a ∷ xs) [] k y z h = absurd z
left_of R (a ∷ xs) (b ∷ ys) zero y z h = let e : b ≡ y = cc in (a, refl, subst (R a) e z.0)
left_of R (a ∷ xs) (b ∷ ys) (suc k) y z h = left_of R xs ys k y z.1 h

pub right_of : {A B : Type 0} (R : A → B → Type 0) (xs : List A) (ys : List B) (k : ℕ) (x : A) → AllZip R xs ys → slice_get xs k ≡ Some x → (y : B) × (slice_get ys k ≡ Some y) × R x y
right_of R [] [] k x z h = absurd cc
right_of R [] (b ∷ ys) k x z h = absurd z
right_of R (a ∷ xs) [] k x z h = absurd z
right_of R (a ∷ xs) (b ∷ ys) zero x z h = let e : a ≡ x = cc in (b, refl, subst (λ w. R w b) e z.0)
right_of R (a ∷ xs) (b ∷ ys) (suc k) x z h = right_of R xs ys k x z.1 h

-- a text reads as at most one id
abbrev pub ReadsOnce : Type 0
ReadsOnce = (t : Text) (a b : Identity) → Reads t a → Reads t b → a ≡ b
