-- Sorted lists of ids: what a search finds in them, and when two are the same.
use Rattle.std.proofs.Common.{◌≡◌, ◌↔◌, ℕ, ◌+◌, ◌<◌, List, [], ◌∷◌, length, get_or, map, false, refl, sym, ap, ◌∙◌, subst, inl, inr, arith, Ordering, Less, Equal, Greater}
use Rattle.std.proofs.lemmas.Bool.{cases_lt, cases_order}
use Rattle.std.proofs.lemmas.List.{get_or-map, length-map}
use Rattle.std.proofs.lemmas.Map.Keys.{Less-from_sorted}
use Rattle.std.proofs.lemmas.Option.{slice_get-get_or, get_or_from_slice_get, slice_get_within}
use Rattle.std.specs.Cmp.{IsTotalOrder}
use Rattle.std.specs.List.{AllByRecursion}
use Rattle.std.specs.List.Sorted.{IsStrictlySortedBy, IsSorted, IsSortedBy, IsPartitionPoint}
use Rattle.std.specs.Ordering.{is_lt, ordering_reverse}
use Rattle.krates_ids.specs.Identity.{Identity, IsSameId, id_cmp}
use Rattle.krates_rules.specs.Facts.{Id}
use Rattle.krates_rules.specs.Referent.{id_order}
use Rattle.krates_rules.specs.Resolved.{id_of, StandsAt}
use Rattle.krates_rules.proofs.Members.{Member}

-- the order of ids is total, and says which are the same
pub record Compares : Type 0 where
  pub total : IsTotalOrder id_cmp
  pub tells : (a b : Identity) → (id_cmp a b ≡ Equal) ↔ IsSameId a b

pub id_of_same : (a b : Identity) → IsSameId a b → id_of a ≡ id_of b
id_of_same a b s = rw (s.name, s.version, s.source) refl

pub same_of : (a b : Identity) → id_of a ≡ id_of b → IsSameId a b
same_of a b e = record { name = ap (λ (i : Id). i.name) e; version = ap (λ (i : Id). i.version) e; source = ap (λ (i : Id). i.source) e }

pub equal_of : Compares → (a b : Identity) → id_of a ≡ id_of b → id_cmp a b ≡ Equal
equal_of o a b e = (o.tells a b).1 (same_of a b e)

pub id_of_equal : Compares → (a b : Identity) → id_cmp a b ≡ Equal → id_of a ≡ id_of b
id_of_equal o a b e = id_of_same a b ((o.tells a b).0 e)

-- ---- search in a strictly sorted list

not_less : (r : Ordering) → r ≡ Less → is_lt (ordering_reverse r) ≡ false
not_less r e = rw e refl

pub sorted_weakly : Compares → (ids : List Identity) → IsStrictlySortedBy id_cmp ids → IsSorted id_cmp ids
sorted_weakly o ids s k d low lt =
    let less : id_cmp (get_or ids k d) (get_or ids (k + 1) d) ≡ Less = Less-from_sorted id_cmp ids k (k + 1) d s (omega arith) lt in
    ap is_lt (o.total.antisymm (get_or ids (k + 1) d) (get_or ids k d)) ∙ not_less _ less

pub weakly_by : {X : Type 0} (key : X → Identity) (xs : List X) → IsSorted id_cmp (map key xs) → IsSortedBy (λ a b. is_lt (id_cmp (key a) (key b))) xs
weakly_by key xs s k d low lt =
    let at = s k (key d) low (rw length-map lt) in
    let here = get_or-map key xs k d (key d) (omega arith) in
    let next = get_or-map key xs (k + 1) d (key d) lt in
    rw (here, next) at at

-- nothing compares as equal where the search found nothing
pub none_equal : {X : Type 0} (ord : X → Ordering) (xs : List X) (i : ℕ) → IsPartitionPoint (λ y. ord y ≡ Less) (λ y. ord y ≡ Greater) xs i
    → (k : ℕ) (d : X) → k < length xs → ord (get_or xs k d) ≡ Equal → ⊥
none_equal ord xs i p k d lt e = elim (cases_lt k i) [
  | inl below ↦ (let l = p.0 k d (omega arith) below in cc)
  | inr above ↦ (let g = p.1 k d above lt in cc)
]

-- ---- places in a strictly sorted list

-- the same id isn't at an earlier place
pub not_earlier : Compares → (ids : List Identity) → IsStrictlySortedBy id_cmp ids → (i j : ℕ) (d : Identity) → i < j → j < length ids → id_of (get_or ids i d) ≡ id_of (get_or ids j d) → ⊥
not_earlier o ids s i j d lt within e =
    let less = Less-from_sorted id_cmp ids i j d s lt within in
    let equal = equal_of o (get_or ids i d) (get_or ids j d) e in
    cc

pub one_place : Compares → (ids : List Identity) → IsStrictlySortedBy id_cmp ids → (i j : ℕ) (d : Identity) → i < length ids → j < length ids → id_of (get_or ids i d) ≡ id_of (get_or ids j d) → i ≡ j
one_place o ids s i j d li lj e = elim (cases_order i j) [
  | inl is ↦ is
  | inr (inl lt) ↦ absurd (not_earlier o ids s i j d lt lj e)
  | inr (inr gt) ↦ absurd (not_earlier o ids s j i d gt li (sym e))
]

pub stands : (ids : List Identity) (id : Id) (n : ℕ) (d : Identity) → n < length ids → id_of (get_or ids n d) ≡ id → StandsAt ids id n
stands ids id n d lt e = record { there = get_or ids n d; at = slice_get-get_or ids n d lt; same = e }

pub stands_within : (ids : List Identity) (id : Id) (n : ℕ) → StandsAt ids id n → n < length ids
stands_within ids id n h = slice_get_within ids n h.there h.at

pub stands_same : (ids : List Identity) (id : Id) (n : ℕ) (d : Identity) → StandsAt ids id n → id_of (get_or ids n d) ≡ id
stands_same ids id n d h = ap id_of (get_or_from_slice_get ids n h.there d h.at) ∙ h.same

-- ---- two strictly sorted lists

pub never_less : IsTotalOrder id_cmp → (a b : Identity) → id_cmp a b ≡ Less → id_cmp b a ≡ Less → ⊥
never_less o a b l m = let e = o.antisymm a b in cc (e, l, m)

-- each id of the first is also in the second
abbrev pub HasLike : List Identity → List Identity → Type 0
HasLike is js = (i : Id) → Member (map id_of is) i → Member (map id_of js) i

-- an id that comes after another
record Behind (i : Identity) (z : Id) : Type 0 where
  id : Identity
  is : id_of id ≡ z
  less : id_cmp i id ≡ Less

behind : (i : Identity) (is : List Identity) (z : Id) → AllByRecursion (λ k. id_cmp i k ≡ Less) is → Member (map id_of is) z → Behind i z
behind i [] z h m = absurd m
behind i (k ∷ is) z h (inl e) = record { id = k; is = e; less = h.0 }
behind i (k ∷ is) z h (inr m) = behind i is z h.1 m

less_as : (i j k : Identity) → id_of j ≡ id_of k → id_cmp i j ≡ Less → id_cmp i k ≡ Less
less_as i j k e l = let order : id_order (id_of i) (id_of j) ≡ Less = l in subst (λ z. id_order (id_of i) z ≡ Less) e order

first_same : IsTotalOrder id_cmp → (i j : Identity) (is js : List Identity) → AllByRecursion (λ k. id_cmp i k ≡ Less) is → AllByRecursion (λ k. id_cmp j k ≡ Less) js
    → Member (map id_of (j ∷ js)) (id_of i) → Member (map id_of (i ∷ is)) (id_of j) → id_of i ≡ id_of j
first_same o i j is js s u (inl e) back = sym e
first_same o i j is js s u (inr m) (inl e) = e
first_same o i j is js s u (inr m) (inr n) =
    let a = behind j js (id_of i) u m in
    let b = behind i is (id_of j) s n in
    absurd (never_less o i j (less_as i b.id j b.is b.less) (less_as j a.id i a.is a.less))

later_like : IsTotalOrder id_cmp → (i j : Identity) (is js : List Identity) → AllByRecursion (λ k. id_cmp i k ≡ Less) is → id_of i ≡ id_of j → HasLike (i ∷ is) (j ∷ js) → HasLike is js
later_like o i j is js s same there z m = elim (there z (inr m)) [
  | inl e ↦ (let a = behind i is z s m in let l = less_as i a.id i (a.is ∙ sym e ∙ sym same) a.less in absurd (never_less o i i l l))
  | inr n ↦ n
]

-- strictly sorted lists of the same ids have them at the same places
pub one_order : IsTotalOrder id_cmp → (is js : List Identity) → IsStrictlySortedBy id_cmp is → IsStrictlySortedBy id_cmp js → HasLike is js → HasLike js is → map id_of is ≡ map id_of js
unfolding IsStrictlySortedBy
one_order o [] [] s u there back = refl
one_order o [] (j ∷ js) s u there back = absurd (back (id_of j) (inl refl))
one_order o (i ∷ is) [] s u there back = absurd (there (id_of i) (inl refl))
one_order o (i ∷ is) (j ∷ js) s u there back =
    let head = first_same o i j is js s.0 u.0 (there (id_of i) (inl refl)) (back (id_of j) (inl refl)) in
    let rest = one_order o is js s.1 u.1 (later_like o i j is js s.0 head there) (later_like o j i js is u.0 (sym head) back) in
    ap (λ x. x ∷ map id_of is) head ∙ ap (λ xs. id_of j ∷ xs) rest
