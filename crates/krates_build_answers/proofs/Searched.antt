-- What a binary search returns in a list in ascending order.
use Rattle.std.proofs.Common.{◌≡◌, ℕ, ◌<◌, ◌≤◌, List, Some, Result, Ok, Err, Contains, MatchOption, length, get_or, slice_get, Ordering, Less, Equal, Greater, refl, sym, ap, ◌∙◌, subst, inl, inr, arith}
use Rattle.std.proofs.lemmas.Bool.{cases_lt}
use Rattle.std.proofs.lemmas.Map.Keys.{Less-from_sorted}
use Rattle.std.proofs.lemmas.Option.{get_or_from_slice_get, slice_get-get_or, slice_get_within}
use Rattle.std.specs.Cmp.{IsTotalOrder}
use Rattle.std.specs.List.Sorted.{IsBinarySearchResult, IsNonDecreasingBy, IsSearchInRange, IsStrictlySortedBy}
use Rattle.std.specs.Ordering.{ordering_index, ordering_reverse}
use Rattle.std.specs.Result.{result_ok}
use Rattle.krates_rules.proofs.BinarySearch.{step}
use Rattle.krates_build_answers.specs.Orders.{TellsApart}

same_equal : (r : Ordering) → r ≡ ordering_reverse r → r ≡ Equal
same_equal Less h = absurd cc
same_equal Equal h = refl
same_equal Greater h = absurd cc

module _ {K : Type 0} {R : K → K → Ordering} (o : IsTotalOrder R) (apart : TellsApart R) where
  rises : (xs : List K) (q : K) → IsStrictlySortedBy R xs → IsNonDecreasingBy (λ y. ordering_index (R y q)) xs
  rises xs q sorted i j d le lt = elim (cases_lt i j) [
    | inl l ↦ step o (get_or xs i d) (get_or xs j d) q (R (get_or xs i d) q) (R (get_or xs j d) q) refl refl (Less-from_sorted R xs i j d sorted l lt)
    | inr ge ↦ (
        let e : i ≡ j = omega (arith, le, ge) in
        subst (λ k. ordering_index (R (get_or xs i d) q) ≤ ordering_index (R (get_or xs k d) q)) e (omega arith))
  ]

  tied : (x : K) → R x x ≡ Equal
  tied x = same_equal (R x x) (o.antisymm x x)

  -- nothing stands at a place and again behind it
  not_above : (xs : List K) (j k : ℕ) (x : K) → IsStrictlySortedBy R xs → j < k → slice_get xs j ≡ Some x → slice_get xs k ≡ Some x → ⊥
  not_above xs j k x sorted l at there =
      let less = Less-from_sorted R xs j k x sorted l (slice_get_within xs k x there) in
      let one = get_or_from_slice_get xs j x x at in
      let other = get_or_from_slice_get xs k x x there in
      let same : R x x ≡ Less = subst (λ (y : K). R y x ≡ Less) one (subst (λ (y : K). R (get_or xs j x) y ≡ Less) other less) in
      let tie = tied x in
      cc

  -- where it stands, or that it doesn't
  pub place_found : (xs : List K) (q : K) (r : Result ℕ ℕ) → IsStrictlySortedBy R xs → IsSearchInRange r (length xs)
      → IsBinarySearchResult (λ (y : K). R y q) xs r → MatchOption (result_ok r) (¬ Contains xs q) (λ n. slice_get xs n ≡ Some q)
  place_found xs q (Ok n) sorted range h = slice_get-get_or xs n q range ∙ ap (λ (x : K). Some x) (apart (get_or xs n q) q (h q))
  place_found xs q (Err i) sorted range h = λ (n, lt, is).
      let equal : R (get_or xs n q) q ≡ Equal = subst (λ (x : K). R x q ≡ Equal) (sym is) (tied q) in
      let parted = h (rises xs q sorted) in
      elim (cases_lt n i) [
        | inl l ↦ (let less = parted.0 n q (omega arith) l in absurd (cc (less, equal)))
        | inr g ↦ (let greater = parted.1 n q g lt in absurd (cc (greater, equal)))
      ]

  -- what stands at two places stands at one
  pub one_place : (xs : List K) (j k : ℕ) (x : K) → IsStrictlySortedBy R xs → slice_get xs j ≡ Some x → slice_get xs k ≡ Some x → j ≡ k
  one_place xs j k x sorted at there = elim (cases_lt j k) [
    | inl l ↦ absurd (not_above xs j k x sorted l at there)
    | inr ge ↦ elim (cases_lt k j) [
      | inl l ↦ absurd (not_above xs k j x sorted l there at)
      | inr le ↦ omega (arith, ge, le)
    ]
  ]
