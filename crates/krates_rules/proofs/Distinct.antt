-- Lists without doubles, and what a list keeps when its elements are permuted.
use Rattle.std.proofs.Common.{◌≡◌, ℕ, zero, suc, ◌<◌, List, [], ◌∷◌, length, Bool, false, cond, Some, refl, sym, ap, ◌∙◌, subst, arith}
use Rattle.std.proofs.lemmas.List.Sorted.{IsPermutation-swap, length_permutation, sum_by-IsPermutation}
use Rattle.std.specs.List.{AllByRecursion, AllZip, IsDistinct, dedup, dedup_from, slice_get, slice_index_or, slice_set, sum, swap}
use Rattle.std.specs.List.Sorted.{IsPermutation, SwapsInRange, apply_swaps}

-- ---- lists without doubles

all_by_recursion : {A : Type 0} (P : A → Type 0) (xs : List A) → ((k : ℕ) (x : A) → slice_get xs k ≡ Some x → P x) → AllByRecursion P xs
all_by_recursion P [] each = tt
all_by_recursion P (x ∷ xs) each = (each zero x refl, all_by_recursion P xs (λ k y at. each (suc k) y at))

pub distinct_from : {A : Type 0} (same : A → A → Bool) (xs : List A) → ((j k : ℕ) (x y : A) → j < k → slice_get xs j ≡ Some x → slice_get xs k ≡ Some y → same x y ≡ false) → IsDistinct same xs
unfolding IsDistinct
distinct_from same [] each = tt
distinct_from same (x ∷ xs) each = (
  all_by_recursion (λ y. same x y ≡ false) xs (λ k y at. each zero (suc k) x y (omega arith) refl at),
  distinct_from same xs (λ j k y z lt a b. each (suc j) (suc k) y z (omega (arith, lt)) a b),
)

-- `dedup` leaves such a list as it is
kept_from : {A : Type 0} (same : A → A → Bool) → ((x y : A) → same x y ≡ same y x) → (x : A) (xs : List A) → IsDistinct same (x ∷ xs) → dedup_from same x xs ≡ x ∷ xs
unfolding IsDistinct
kept_from same symm x [] h = refl
kept_from same symm x (y ∷ ys) h =
    ap (λ (b : Bool). cond b (dedup_from same x ys) (x ∷ dedup_from same y ys)) (symm y x ∙ h.0.0) ∙ ap (λ (zs : List _). x ∷ zs) (kept_from same symm y ys h.1)

pub dedup_distinct : {A : Type 0} (same : A → A → Bool) → ((x y : A) → same x y ≡ same y x) → (xs : List A) → IsDistinct same xs → dedup same xs ≡ xs
dedup_distinct same symm [] h = refl
dedup_distinct same symm (x ∷ xs) h = kept_from same symm x xs h

-- ---- what belongs to each element, when the elements are permuted

zip_set : {A : Type 0} (R : A → ℕ → Type 0) (xs : List A) (ns : List ℕ) (k : ℕ) (x : A) (n : ℕ) → AllZip R xs ns → R x n → AllZip R (slice_set xs k x) (slice_set ns k n)
zip_set R [] [] k x n z h = tt
zip_set R [] (m ∷ ns) k x n z h = absurd z
zip_set R (y ∷ xs) [] k x n z h = absurd z
zip_set R (y ∷ xs) (m ∷ ns) zero x n z h = (h, z.1)
zip_set R (y ∷ xs) (m ∷ ns) (suc k) x n z h = (z.0, zip_set R xs ns k x n z.1 h)

zip_at : {A : Type 0} (R : A → ℕ → Type 0) (xs : List A) (ns : List ℕ) (k : ℕ) (x : A) (n : ℕ) → AllZip R xs ns → k < length xs → R (slice_index_or xs k x) (slice_index_or ns k n)
zip_at R [] ns k x n z lt = absurd (omega (arith, lt))
zip_at R (y ∷ xs) [] k x n z lt = absurd z
zip_at R (y ∷ xs) (m ∷ ns) zero x n z lt = z.0
zip_at R (y ∷ xs) (m ∷ ns) (suc k) x n z lt = zip_at R xs ns k x n z.1 (omega (arith, lt))

zip_long : {A : Type 0} (R : A → ℕ → Type 0) (xs : List A) (ns : List ℕ) → AllZip R xs ns → length ns ≡ length xs
zip_long R [] [] z = refl
zip_long R [] (m ∷ ns) z = absurd z
zip_long R (y ∷ xs) [] z = absurd z
zip_long R (y ∷ xs) (m ∷ ns) z = ap suc (zip_long R xs ns z.1)

zip_swapped : {A : Type 0} (R : A → ℕ → Type 0) (xs : List A) (ns : List ℕ) (j k : ℕ) → AllZip R xs ns → j < length xs → k < length xs → AllZip R (swap xs j k) (swap ns j k)
zip_swapped R [] ns j k z a b = absurd (omega (arith, a))
zip_swapped R (x ∷ xs) [] j k z a b = absurd z
zip_swapped R (x ∷ xs) (n ∷ ns) j k z a b =
    zip_set R _ _ k _ _ (zip_set R (x ∷ xs) (n ∷ ns) j _ _ z (zip_at R (x ∷ xs) (n ∷ ns) k x n z b)) (zip_at R (x ∷ xs) (n ∷ ns) j x n z a)

shuffled : {A : Type 0} (R : A → ℕ → Type 0) (xs : List A) (ns : List ℕ) (moves : List (ℕ × ℕ)) → SwapsInRange (length xs) moves → AllZip R xs ns
    → (ms : List ℕ) × AllZip R (apply_swaps xs moves) ms × (sum ms ≡ sum ns)
shuffled R xs ns [] h z = (ns, z, refl)
shuffled R xs ns (p ∷ ps) h z =
    let w = shuffled R xs ns ps h.2 z in
    let l = apply_swaps xs ps in
    let here : IsPermutation xs l = record { moves = ps; below = h.2; is = refl } in
    let long : length l ≡ length xs = length_permutation xs l here in
    let i : p.0 < length l = subst (λ (n : ℕ). p.0 < n) (sym long) h.0 in
    let j : p.1 < length l = subst (λ (n : ℕ). p.1 < n) (sym long) h.1 in
    let there = zip_long R l w.0 w.1 in
    let a : p.0 < length w.0 = subst (λ (n : ℕ). p.0 < n) (sym there) i in
    let b : p.1 < length w.0 = subst (λ (n : ℕ). p.1 < n) (sym there) j in
    let moved : IsPermutation w.0 (swap w.0 p.0 p.1) = IsPermutation-swap w.0 (swap w.0 p.0 p.1) p.0 p.1 a b refl in (
      swap w.0 p.0 p.1,
      zip_swapped R l w.0 p.0 p.1 w.1 i j,
      sum_by-IsPermutation (λ (n : ℕ). n) w.0 (swap w.0 p.0 p.1) moved ∙ w.2,
    )

-- what belongs to each element stays with it, and the sum stays
pub zip_shuffled : {A : Type 0} (R : A → ℕ → Type 0) (xs ys : List A) (ns : List ℕ) → IsPermutation xs ys → AllZip R xs ns → (ms : List ℕ) × AllZip R ys ms × (sum ms ≡ sum ns)
zip_shuffled R xs ys ns p z =
    let w = shuffled R xs ns p.moves p.below z in
    (w.0, subst (λ (l : List _). AllZip R l w.0) (sym p.is) w.1, w.2)
