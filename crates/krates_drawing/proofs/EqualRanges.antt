-- Runs of equal elements in sorted lists, and what a binary search finds of them.
use Rattle.std.proofs.Common.{◌≡◌, ℕ, zero, suc, ◌+◌, ◌<◌, ◌≤◌, Bool, true, false, List, [], ◌∷◌, length, get_or, take, drop, map, filter, cond, Result, Ok, Err, Ordering, Less, Equal, Greater, refl, sym, ap, ◌∙◌, subst, inl, inr, arith}
use Rattle.std.proofs.lemmas.Bool.{cases_lt}
use Rattle.std.proofs.lemmas.Map.Keys.{Less-from_sorted}
use Rattle.std.proofs.lemmas.List.Folds.{list_any-from_Any, list_any_none}
use Rattle.std.proofs.lemmas.List.{get_or_default, get_or-drop, get_or-map, length-drop, length-map}
use Rattle.std.specs.Cmp.{IsTotalOrder}
use Rattle.std.specs.List.Sorted.{IsBinarySearchResult, IsNonDecreasingBy, IsPartitionedBy, IsPartitionPoint, IsSearchInRange, IsStrictlySortedBy}
use Rattle.std.specs.Ordering.{is_eq, is_lt, ordering_index, ordering_reverse}
use Rattle.std.specs.List.{list_any}
use Rattle.std.specs.Result.{is_ok, result_unwrap_or}
use Rattle.krates_drawing.specs.Drawing.{place_of}
use Rattle.krates_rules.proofs.BinarySearch.{step}

-- ---- a run

none_before : {A : Type 0} (p : A → Bool) (xs : List A) (n : ℕ) → ((k : ℕ) (d : A) → k < n → k < length xs → p (get_or xs k d) ≡ false) → filter p xs ≡ filter p (drop n xs)
none_before p xs zero h = refl
none_before p [] (suc n) h = refl
none_before p (x ∷ xs) (suc n) h =
    ap (λ b. cond b (x ∷ filter p xs) (filter p xs)) (h zero x (omega arith) (omega arith)) ∙ none_before p xs n (λ k d lt within. h (suc k) d (omega (arith, lt)) (omega (arith, within)))

all_front : {A : Type 0} (p : A → Bool) (xs : List A) (n : ℕ) → ((k : ℕ) (d : A) → k < n → k < length xs → p (get_or xs k d) ≡ true) → ((k : ℕ) (d : A) → n ≤ k → k < length xs → p (get_or xs k d) ≡ false) → filter p xs ≡ take n xs
all_front p [] zero front back = refl
all_front p [] (suc n) front back = refl
all_front p (x ∷ xs) zero front back =
    ap (λ b. cond b (x ∷ filter p xs) (filter p xs)) (back zero x (omega arith) (omega arith)) ∙ all_front p xs zero (λ k d lt within. absurd (omega (arith, lt))) (λ k d le within. back (suc k) d (omega arith) (omega (arith, within)))
all_front p (x ∷ xs) (suc n) front back =
    ap (λ b. cond b (x ∷ filter p xs) (filter p xs)) (front zero x (omega arith) (omega arith)) ∙ ap (λ ys. x ∷ ys) (all_front p xs n (λ k d lt within. front (suc k) d (omega (arith, lt)) (omega (arith, within))) (λ k d le within. back (suc k) d (omega (arith, le)) (omega (arith, within))))

drop_within : {A : Type 0} (xs : List A) (n k : ℕ) → k < length (drop n xs) → n + k < length xs
drop_within xs n k lt = omega (arith, lt, length-drop n xs)

-- ---- how elements compare with the one sought

-- an element that isn't below, before an equal one, is equal
equal_between : (r s : Ordering) → ordering_index r ≤ ordering_index s → is_lt r ≡ false → is_eq s ≡ true → is_eq r ≡ true
equal_between Less s le a b = absurd cc
equal_between Equal s le a b = refl
equal_between Greater Less le a b = absurd cc
equal_between Greater Equal le a b = absurd (omega (arith, le))
equal_between Greater Greater le a b = absurd cc

below_between : (r s : Ordering) → ordering_index r ≤ ordering_index s → is_lt s ≡ true → is_lt r ≡ true
below_between Less s le a = refl
below_between Equal Less le a = absurd (omega (arith, le))
below_between Equal Equal le a = absurd cc
below_between Equal Greater le a = absurd cc
below_between Greater Less le a = absurd (omega (arith, le))
below_between Greater Equal le a = absurd cc
below_between Greater Greater le a = absurd cc

below_unequal : (r : Ordering) → is_lt r ≡ true → is_eq r ≡ false
below_unequal Less e = refl
below_unequal Equal e = absurd cc
below_unequal Greater e = refl

-- elements below come first
below_first : {A : Type 0} (ord : A → Ordering) (xs : List A) → IsNonDecreasingBy (λ y. ordering_index (ord y)) xs → IsPartitionedBy (λ y. is_lt (ord y)) xs
below_first ord xs rises i j d le lt e = below_between (ord (get_or xs i d)) (ord (get_or xs j d)) (rises i j d le lt) e

-- after them come the equal ones
equal_first : {A : Type 0} (ord : A → Ordering) (xs : List A) (n : ℕ) → IsNonDecreasingBy (λ y. ordering_index (ord y)) xs → IsPartitionPoint (λ y. is_lt (ord y) ≡ true) (λ y. is_lt (ord y) ≡ false) xs n → IsPartitionedBy (λ y. is_eq (ord y)) (drop n xs)
equal_first ord xs n rises parted i j d le lt e =
    let within : n + j < length xs = drop_within xs n j lt in
    let here : is_lt (ord (get_or xs (n + i) d)) ≡ false = parted.1 (n + i) d (omega arith) (omega (arith, le, within)) in
    let there : is_eq (ord (get_or xs (n + j) d)) ≡ true = ap (λ z. is_eq (ord z)) (sym (get_or-drop n xs j d)) ∙ e in
    ap (λ z. is_eq (ord z)) (get_or-drop n xs i d) ∙ equal_between (ord (get_or xs (n + i) d)) (ord (get_or xs (n + j) d)) (rises (n + i) (n + j) d (omega (arith, le)) within) here there

-- equal elements form one run
stretch : {A : Type 0} (ord : A → Ordering) (xs : List A) (n m : ℕ) → IsPartitionPoint (λ y. is_lt (ord y) ≡ true) (λ y. is_lt (ord y) ≡ false) xs n
    → IsPartitionPoint (λ y. is_eq (ord y) ≡ true) (λ y. is_eq (ord y) ≡ false) (drop n xs) m → filter (λ y. is_eq (ord y)) xs ≡ take m (drop n xs)
stretch ord xs n m low high =
    none_before (λ y. is_eq (ord y)) xs n (λ k d lt within. below_unequal (ord (get_or xs k d)) (low.0 k d (omega arith) lt))
    ∙ all_front (λ y. is_eq (ord y)) (drop n xs) m (λ k d lt within. high.0 k d (omega arith) lt) (λ k d le within. high.1 k d le within)

-- ---- the order of a list, relative to the element sought

module _ {K : Type 0} {R : K → K → Ordering} (o : IsTotalOrder R) where
  pub rises : {A : Type 0} (key : A → K) (xs : List A) (q : K) → IsStrictlySortedBy R (map key xs) → IsNonDecreasingBy (λ y. ordering_index (R (key y) q)) xs
  rises key xs q sorted i j d le lt = elim (cases_lt i j) [
    | inl l ↦ (
        let later = Less-from_sorted R (map key xs) i j (key d) sorted l (rw length-map lt) in
        let x = get_or-map key xs i d (key d) (omega (arith, l, lt)) in
        let y = get_or-map key xs j d (key d) lt in
        let less : R (key (get_or xs i d)) (key (get_or xs j d)) ≡ Less = ap (λ z. R z (key (get_or xs j d))) (sym x) ∙ ap (λ z. R (get_or (map key xs) i (key d)) z) (sym y) ∙ later in
        step o (key (get_or xs i d)) (key (get_or xs j d)) q (R (key (get_or xs i d)) q) (R (key (get_or xs j d)) q) refl refl less)
    | inr ge ↦ (
        let e : i ≡ j = omega (arith, le, ge) in
        subst (λ k. ordering_index (R (key (get_or xs i d)) q) ≤ ordering_index (R (key (get_or xs k d)) q)) e (omega arith))
  ]

  -- an element that isn't above compares no higher
  pub weakly : (x y q : K) (r : Ordering) → R x y ≡ r → (r ≡ Greater → ⊥) → ordering_index (R x q) ≤ ordering_index (R y q)
  weakly x y q Less e low = step o x y q (R x q) (R y q) refl refl e
  weakly x y q Equal e low = let same : R x q ≡ R y q = o.congr x y q e in subst (λ r. ordering_index (R x q) ≤ ordering_index r) same (omega arith)
  weakly x y q Greater e low = absurd (low refl)

  pub rises_weakly : {A : Type 0} (key : A → K) (xs : List A) (q : K) → ((i j : ℕ) (d : A) → i < j → j < length xs → R (key (get_or xs i d)) (key (get_or xs j d)) ≡ Greater → ⊥) → IsNonDecreasingBy (λ y. ordering_index (R (key y) q)) xs
  rises_weakly key xs q low i j d le lt = elim (cases_lt i j) [
    | inl l ↦ weakly (key (get_or xs i d)) (key (get_or xs j d)) q _ refl (low i j d l lt)
    | inr ge ↦ (
        let e : i ≡ j = omega (arith, le, ge) in
        subst (λ k. ordering_index (R (key (get_or xs i d)) q) ≤ ordering_index (R (key (get_or xs k d)) q)) e (omega arith))
  ]

-- in a sorted list an earlier element is below a later one
pub below_later : {A K : Type 0} (R : K → K → Ordering) (key : A → K) (xs : List A) (i j : ℕ) (d : A) → IsStrictlySortedBy R (map key xs) → i < j → j < length xs → R (key (get_or xs i d)) (key (get_or xs j d)) ≡ Less
below_later R key xs i j d sorted l lt =
    let later = Less-from_sorted R (map key xs) i j (key d) sorted l (rw length-map lt) in
    let x = get_or-map key xs i d (key d) (omega (arith, l, lt)) in
    let y = get_or-map key xs j d (key d) lt in
    ap (λ z. R z (key (get_or xs j d))) (sym x) ∙ ap (λ z. R (get_or (map key xs) i (key d)) z) (sym y) ∙ later

-- a run that two searches cut out has exactly the equal elements
pub cut : {A : Type 0} (ord : A → Ordering) (xs rest mine : List A) (n m : ℕ) → rest ≡ drop n xs → mine ≡ take m rest → IsNonDecreasingBy (λ y. ordering_index (ord y)) xs
    → (IsPartitionedBy (λ y. is_lt (ord y)) xs → IsPartitionPoint (λ y. is_lt (ord y) ≡ true) (λ y. is_lt (ord y) ≡ false) xs n)
    → (IsPartitionedBy (λ y. is_eq (ord y)) rest → IsPartitionPoint (λ y. is_eq (ord y) ≡ true) (λ y. is_eq (ord y) ≡ false) rest m)
    → mine ≡ filter (λ y. is_eq (ord y)) xs
cut ord xs rest mine n m behind front rises low high =
    let lower = low (below_first ord xs rises) in
    let higher = subst (λ l. IsPartitionPoint (λ y. is_eq (ord y) ≡ true) (λ y. is_eq (ord y) ≡ false) l m) behind (high (subst (λ l. IsPartitionedBy (λ y. is_eq (ord y)) l) (sym behind) (equal_first ord xs n rises lower))) in
    front ∙ ap (take m) behind ∙ sym (stretch ord xs n m lower higher)

-- ---- a place

first_place : {A : Type 0} (p : A → Bool) (xs : List A) (n : ℕ) (d : A) → n < length xs → p (get_or xs n d) ≡ true → ((k : ℕ) → k < n → p (get_or xs k d) ≡ false) → place_of p xs ≡ n
first_place p [] n d lt e h = absurd (omega (arith, lt))
first_place p (x ∷ xs) zero d lt e h = ap (λ b. cond b 0 (suc (place_of p xs))) e
first_place p (x ∷ xs) (suc n) d lt e h =
    ap (λ b. cond b 0 (suc (place_of p xs))) (h zero (omega arith)) ∙ ap suc (first_place p xs n d (omega (arith, lt)) e (λ k l. h (suc k) (omega (arith, l))))

no_place : {A : Type 0} (p : A → Bool) (xs : List A) → ((k : ℕ) (d : A) → k < length xs → p (get_or xs k d) ≡ false) → place_of p xs ≡ length xs
no_place p [] h = refl
no_place p (x ∷ xs) h = ap (λ b. cond b 0 (suc (place_of p xs))) (h zero x (omega arith)) ∙ ap suc (no_place p xs (λ k d lt. h (suc k) d (omega (arith, lt))))

pub unequal : (r : Ordering) → (r ≡ Equal → ⊥) → is_eq r ≡ false
unequal Less h = refl
unequal Equal h = absurd (h refl)
unequal Greater h = refl

pub head_of : {A : Type 0} (xs : List A) (n : ℕ) → n < length xs → A
head_of [] n lt = absurd (omega (arith, lt))
head_of (x ∷ xs) n lt = x

-- a search among elements that rise finds one where one is equal
pub some_found : {A : Type 0} (ord : A → Ordering) (xs : List A) (r : Result ℕ ℕ) → IsNonDecreasingBy (λ y. ordering_index (ord y)) xs → IsSearchInRange r (length xs) → IsBinarySearchResult ord xs r → is_ok r ≡ list_any (λ y. is_eq (ord y)) xs
some_found ord xs (Ok n) rises lt h = let d = head_of xs n lt in sym (list_any-from_Any (λ y. is_eq (ord y)) xs (n, get_or xs n d, lt, sym (get_or_default xs n d (get_or xs n d) lt), ap is_eq (h d)))
some_found ord xs (Err n) rises le h =
    let parted = h rises in
    sym (list_any_none (λ y. is_eq (ord y)) xs (λ k d lt. unequal _ (λ same. elim (cases_lt k n) [
      | inl l ↦ (let less = parted.0 k d (omega arith) l in cc (less, same))
      | inr g ↦ (let greater = parted.1 k d g lt in cc (greater, same))
    ])))

module _ {K : Type 0} {R : K → K → Ordering} (o : IsTotalOrder R) where
  earlier : {A : Type 0} (key : A → K) (xs : List A) (q : K) (n k : ℕ) (d : A) → IsStrictlySortedBy R (map key xs) → n < length xs → R (key (get_or xs n d)) q ≡ Equal → k < n → is_eq (R (key (get_or xs k d)) q) ≡ false
  earlier key xs q n k d sorted lt e l =
      let later = Less-from_sorted R (map key xs) k n (key d) sorted l (rw length-map lt) in
      let x = get_or-map key xs k d (key d) (omega (arith, l, lt)) in
      let y = get_or-map key xs n d (key d) lt in
      let less : R (key (get_or xs k d)) (key (get_or xs n d)) ≡ Less = ap (λ z. R z (key (get_or xs n d))) (sym x) ∙ ap (λ z. R (get_or (map key xs) k (key d)) z) (sym y) ∙ later in
      unequal _ (λ same. (
      let other : R (key (get_or xs k d)) (key (get_or xs n d)) ≡ R q (key (get_or xs n d)) = o.congr (key (get_or xs k d)) q (key (get_or xs n d)) same in
      let turned : R q (key (get_or xs n d)) ≡ Equal = o.antisymm q (key (get_or xs n d)) ∙ ap ordering_reverse e in
      cc (less, other, turned)))

  -- the place of the first equal element, as a binary search finds it
  pub searched : {A : Type 0} (key : A → K) (xs : List A) (q : K) (r : Result ℕ ℕ) → IsStrictlySortedBy R (map key xs) → IsSearchInRange r (length xs) → IsBinarySearchResult (λ y. R (key y) q) xs r
      → place_of (λ y. is_eq (R (key y) q)) xs ≡ result_unwrap_or r (length xs)
  searched key xs q (Ok n) sorted lt h =
      let d = head_of xs n lt in
      first_place (λ y. is_eq (R (key y) q)) xs n d lt (ap is_eq (h d)) (λ k l. earlier key xs q n k d sorted lt (h d) l)
  searched key xs q (Err n) sorted le h =
      let parted = h (rises o key xs q sorted) in
      no_place (λ y. is_eq (R (key y) q)) xs (λ k d lt. unequal _ (λ same. elim (cases_lt k n) [
        | inl l ↦ (let less = parted.0 k d (omega arith) l in cc (less, same))
        | inr g ↦ (let greater = parted.1 k d g lt in cc (greater, same))
      ]))
