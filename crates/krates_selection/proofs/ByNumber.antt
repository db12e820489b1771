-- What is in order by number is in order by what the numbers stand for; lists related item by item.
use Rattle.std.proofs.Common.{◌≡◌, ℕ, ◌<◌, ◌≤◌, ◌+◌, List, [], ◌∷◌, ◌++◌, length, get_or, take, All, Ordering, Less, Some, sym, ap, ◌∙◌, inl, inr, subst}
use Rattle.std.proofs.lemmas.Bool.{cases_order}
use Rattle.std.proofs.lemmas.Cmp.{nat_cmp_total}
use Rattle.std.proofs.lemmas.List.{map-id, take_all}
use Rattle.std.proofs.lemmas.Map.Keys.{Less-from_sorted}
use Rattle.std.proofs.lemmas.Option.{get_or_from_slice_get, slice_get_within}
use Rattle.std.specs.Cmp.{IsTotalOrder, nat_cmp_is}
use Rattle.std.specs.List.{AllZip, slice_get}
use Rattle.std.specs.List.Sorted.{IsStrictlySortedBy}
use Rattle.std.specs.Ordering.{nat_cmp, ordering_reverse}
use Rattle.krates_rules.proofs.Zips.{zip_next}
use Rattle.krates_rules.proofs.SeenInOrder.{equal_self}

nat_less : (m n : ℕ) → m < n → nat_cmp m n ≡ Less
nat_less m n lt = sym (nat_cmp_is m n Less lt)

places_compare : {K : Type 0} {R : K → K → Ordering} → IsTotalOrder R → (xs : List K) (d : K) → IsStrictlySortedBy R xs → (m n : ℕ) → m < length xs → n < length xs → R (get_or xs m d) (get_or xs n d) ≡ nat_cmp m n
places_compare {K} {R} o xs d sorted m n lm ln = elim (cases_order m n) [
  | inl e ↦ subst (λ k. R (get_or xs m d) (get_or xs k d) ≡ nat_cmp m k) e (equal_self o (get_or xs m d) ∙ sym (equal_self nat_cmp_total m))
  | inr r ↦ elim r [
    | inl l ↦ Less-from_sorted R xs m n d sorted l ln ∙ sym (nat_less m n l)
    | inr l ↦ o.antisymm (get_or xs m d) (get_or xs n d) ∙ ap ordering_reverse (Less-from_sorted R xs n m d sorted l lm ∙ sym (nat_less n m l)) ∙ sym (nat_cmp_total.antisymm m n)
  ]
]

-- what is in a list in order compares as its places
pub compared_by_place : {K : Type 0} {R : K → K → Ordering} → IsTotalOrder R → (xs : List K) → IsStrictlySortedBy R xs → (x y : K) (m n : ℕ) → slice_get xs m ≡ Some x → slice_get xs n ≡ Some y → R x y ≡ nat_cmp m n
compared_by_place {K} {R} o xs sorted x y m n at_m at_n =
    let same = places_compare o xs x sorted m n (slice_get_within xs m x at_m) (slice_get_within xs n y at_n) in
    ap (R x) (sym (get_or_from_slice_get xs n y x at_n)) ∙ ap (λ z. R z (get_or xs n x)) (sym (get_or_from_slice_get xs m x x at_m)) ∙ same

-- ---- item by item

-- one more item
pub zip_more : {A B : Type 0} (R : A → B → Type 0) (xs : List A) (i : ℕ) (x : A) (ys : List B) (y : B) → i < length xs → x ≡ get_or xs i x → R x y → AllZip R (take i xs) ys → AllZip R (take (i + 1) xs) (ys ++ y ∷ [])
zip_more R xs i x ys y lt is here so_far =
    subst (λ zs. AllZip R zs (ys ++ y ∷ [])) (map-id (take (i + 1) xs)) (zip_next R (λ x. x) xs i x ys y lt is here (subst (λ zs. AllZip R zs ys) (sym (map-id (take i xs))) so_far))

-- all items
pub zip_whole : {A B : Type 0} (R : A → B → Type 0) (xs : List A) (i : ℕ) (ys : List B) → length xs ≤ i → AllZip R (take i xs) ys → AllZip R xs ys
zip_whole R xs i ys le h = subst (λ zs. AllZip R zs ys) (take_all i xs le) h

-- what holds of all holds of the item that is read
pub all_item : {A : Type 0} (P : A → Type 0) (xs : List A) (i : ℕ) (x : A) → All P xs → i < length xs → x ≡ get_or xs i x → P x
all_item P xs i x all lt is = subst P (sym is) (all i x lt)
