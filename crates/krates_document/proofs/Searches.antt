-- What a binary search returns in a sorted list.
use Rattle.std.proofs.Common.{◌≡◌, ℕ, ◌<◌, ◌≤◌, List, Option, Some, None, Result, Ok, Err, Contains, option_map, ◌↔◌, length, get_or, map, true, slice_get, Ordering, Equal, Bor, refl, sym, ap, ◌∙◌, inl, inr, arith, subst}
use Rattle.std.proofs.lemmas.Bool.{cases_lt}
use Rattle.std.proofs.lemmas.List.{length-map}
use Rattle.std.proofs.lemmas.Map.Keys.{Less-from_sorted}
use Rattle.std.proofs.lemmas.Option.{same_Some, slice_get-map, slice_get_within, slice_get-get_or, get_or_from_slice_get}
use Rattle.std.specs.Cmp.{IsTotalOrder}
use Rattle.std.specs.List.Sorted.{IsBinarySearchResult, IsNonDecreasingBy, IsSearchInRange, IsStrictlySortedBy}
use Rattle.std.specs.Ordering.{ordering_index}
use Rattle.std.specs.Result.{result_ok}
use Rattle.krates_ids.specs.Identity.{Identity, IsSameId, id_cmp, same_id}
use Rattle.krates_rules.specs.Facts.{Id}
use Rattle.krates_rules.specs.Resolved.{id_of}
use Rattle.krates_rules.proofs.BinarySearch.{step}
use Rattle.krates_rules.proofs.FirstPlaces.{seen_at}
use Rattle.krates_rules.proofs.Standings.{contains_at}
use Rattle.krates_rules.proofs.DistinctIds.{OrderTellsSame, id_of_same, same_of}
use Rattle.krates_document.specs.CrateTable.{Among, AreNumbered, IsNumberOf, lent_to}
use Rattle.krates_rules.specs.Referent.{id_order}
use Rattle.krates_rules.proofs.SeenInOrder.{sorted_same, sorted_unseen}

module _ {K : Type 0} {R : K → K → Ordering} (o : IsTotalOrder R) where
  pub rises : (xs : List K) (q : K) → IsStrictlySortedBy R xs → IsNonDecreasingBy (λ y. ordering_index (R y q)) xs
  rises xs q sorted i j d le lt = elim (cases_lt i j) [
    | inl l ↦ step o (get_or xs i d) (get_or xs j d) q (R (get_or xs i d) q) (R (get_or xs j d) q) refl refl (Less-from_sorted R xs i j d sorted l lt)
    | inr ge ↦ (
        let e : i ≡ j = omega (arith, le, ge) in
        subst (λ k. ordering_index (R (get_or xs i d) q) ≤ ordering_index (R (get_or xs k d) q)) e (omega arith))
  ]

-- ---- ids

at_id : (ids : List Identity) (n : ℕ) (d : Identity) → n < length ids → slice_get (map id_of ids) n ≡ Some (id_of (get_or ids n d))
at_id ids n d lt = slice_get-map id_of ids n ∙ ap (option_map id_of) (slice_get-get_or ids n d lt)

-- what a search returns is the number of the id
pub searched_id : OrderTellsSame → IsTotalOrder id_cmp → (ids : List Identity) (q : Identity) (r : Result ℕ ℕ) → AreNumbered (map id_of ids) → IsSearchInRange r (length ids)
    → IsBinarySearchResult (λ (y : Identity). id_cmp y q) ids r → IsNumberOf (map id_of ids) (id_of q) (result_ok r)
searched_id tells o ids q (Ok n) sorted range h =
    at_id ids n q range ∙ ap (λ i. Some i) (id_of_same (get_or ids n q) q ((tells (get_or ids n q) q).0 (h q)))
searched_id tells o ids q (Err i) sorted range h = λ n at.
    let lt : n < length ids = omega (arith, slice_get_within (map id_of ids) n (id_of q) at, length-map ids id_of) in
    let there = get_or ids n q in
    let same : id_of there ≡ id_of q = same_Some (id_of there) (id_of q) (sym (at_id ids n q lt) ∙ at) in
    let equal : id_cmp there q ≡ Equal = (tells there q).1 (same_of there q same) in
    let up = rises o ids q (sorted_unseen id_order id_of ids sorted) in
    let parted = h up in
    elim (cases_lt n i) [
      | inl l ↦ (let less = parted.0 n q (omega arith) l in absurd (cc (less, equal)))
      | inr g ↦ (let greater = parted.1 n q g lt in absurd (cc (greater, equal)))
    ]

-- ---- what a sorted list has

lent_of : (ids : List (Bor Identity)) (k : Identity) → Contains (lent_to ids) k → (b : Bor Identity) × Contains ids b × (b.now ≡ k)
lent_of ids k (n, lt, is) =
    let here : slice_get (lent_to ids) n ≡ Some k = slice_get-get_or (lent_to ids) n k lt ∙ ap (λ x. Some x) is in
    by n (slice_get ids n) refl (sym (slice_get-map (λ (b : Bor Identity). b.now) ids n) ∙ here)
  where
    by : (n : ℕ) (o : Option (Bor Identity)) → slice_get ids n ≡ o → option_map (λ (b : Bor Identity). b.now) o ≡ Some k → (b : Bor Identity) × Contains ids b × (b.now ≡ k)
    by n None at h = absurd cc
    by n (Some b) at h = (b, (n, slice_get_within ids n b at, get_or_from_slice_get ids n b b at), same_Some b.now k h)

numbered_has : (ids : List (Bor Identity)) (b : Bor Identity) (i : Id) → Contains ids b → id_of b.now ≡ i → (n : ℕ) × (slice_get (map id_of (lent_to ids)) n ≡ Some i)
numbered_has ids b i (n, lt, is) e =
    let lent : slice_get (lent_to ids) n ≡ Some b.now = slice_get-map (λ (x : Bor Identity). x.now) ids n ∙ ap (option_map (λ (x : Bor Identity). x.now)) (slice_get-get_or ids n b lt ∙ ap (λ x. Some x) is) in
    (n, slice_get-map id_of (lent_to ids) n ∙ ap (option_map id_of) lent ∙ ap (λ x. Some x) e)

-- sorted ids are numbered
pub in_order_numbered : (ids : List (Bor Identity)) → IsStrictlySortedBy (λ (a b : Bor Identity). id_cmp a.now b.now) ids → AreNumbered (map id_of (lent_to ids))
in_order_numbered ids sorted = sorted_same id_cmp id_order id_of (λ a b. refl) (lent_to ids) (sorted_same (λ (a b : Bor Identity). id_cmp a.now b.now) id_cmp (λ (b : Bor Identity). b.now) (λ a b. refl) ids sorted)

-- and each id that was among them has a number
pub in_order_among : ((a b : Identity) → (same_id a b ≡ true) ↔ IsSameId a b) → (all sorted : List (Bor Identity)) (list : List Identity)
    → ((x : Bor Identity) → Contains all x → (y : Bor Identity) × Contains sorted y × (same_id x.now y.now ≡ true)) → ((k : Identity) → Contains list k → Contains (lent_to all) k) → Among list (map id_of (lent_to sorted))
in_order_among tells all sorted list kept among i none p at =
    let k = seen_at id_of list p i at in
    let here = get_or list p k.0 in
    let b = lent_of all here (among here (contains_at list p here (slice_get-get_or list p k.0 k.1))) in
    let y = kept b.0 b.1 in
    let n = numbered_has sorted y.0 i y.1 (sym (id_of_same b.0.now y.0.now ((tells b.0.now y.0.now).0 y.2)) ∙ ap id_of b.2 ∙ k.2) in
    none n.0 n.1
