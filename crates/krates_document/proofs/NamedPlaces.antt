-- Places in order, found by binary search for a name and a target.
use Rattle.std.proofs.Common.{◌≡◌, ℕ, zero, suc, ◌+◌, ◌-◌, ◌<◌, ◌≤◌, List, [], ◌∷◌, ◌++◌, length, map, take, drop, get_or, true, false, Some, Contains, option_map, Ordering, Less, Equal, Greater, refl, sym, ap, ◌∙◌, subst, arith, inl, inr}
use Rattle.std.proofs.lemmas.Bool.{cases_lt}
use Rattle.std.proofs.lemmas.Cmp.{on_total, then_total, nat_list_cmp_total, tied_itself, upto}
use Rattle.std.proofs.lemmas.List.{length-drop, length-take, get_or-drop, get_or-take}
use Rattle.std.proofs.lemmas.List.Elements.{Contains-append_left, Contains-push}
use Rattle.std.proofs.lemmas.List.Sorted.{Contains-permutation}
use Rattle.std.proofs.lemmas.Option.{same_Some, slice_get-map, slice_get-get_or, slice_get_read, slice_get_within, get_or_from_slice_get}
use Rattle.std.specs.Cmp.{IsTotalOrder}
use Rattle.std.specs.List.{AllWithin, slice_get}
use Rattle.std.specs.List.Sorted.{IsPartitionedBy, IsPermutation}
use Rattle.std.specs.Cmp.Lexicographic.{slice_cmp}
use Rattle.std.specs.Ordering.{is_gt, is_le, is_lt, nat_cmp, ordering_reverse, ordering_then}
use Rattle.krates_cm.specs.Document.{Text}
use Rattle.krates_document.specs.FoldedNames.{folded_order}
use Rattle.krates_document.specs.NamedPlaces.{AreInOrder, AreNamed, StandsUnder, key_cmp, key_of, place_cmp, places_in, sought_key}
use Rattle.krates_document.specs.declared.named_places.NamedPlace.{NamedPlace}
use Rattle.krates_rules.proofs.FirstPlaces.{seen_at}

key_total : IsTotalOrder key_cmp
key_total = then_total (on_total (λ (k : Text × Text). k.0) nat_list_cmp_total) (on_total (λ (k : Text × Text). k.1) nat_list_cmp_total)

-- ---- keys ascend

front_lt : (o p q : Ordering) → is_lt (ordering_then o (ordering_then p q)) ≡ false → is_lt (ordering_then o p) ≡ false
front_lt Less p q h = h
front_lt Equal Less q h = h
front_lt Equal Equal q h = refl
front_lt Equal Greater q h = refl
front_lt Greater p q h = refl

turned : (o r : Ordering) → o ≡ ordering_reverse r → is_lt r ≡ false → is_gt o ≡ false
turned o Less e h = absurd cc
turned o Equal e h = ap is_gt e
turned o Greater e h = ap is_gt e

neighbours : (a b : NamedPlace) → is_lt (place_cmp b a) ≡ false → is_gt (key_cmp (key_of a) (key_of b)) ≡ false
neighbours a b h = turned (key_cmp (key_of a) (key_of b)) (key_cmp (key_of b) (key_of a)) (key_total.antisymm (key_of a) (key_of b)) (front_lt (folded_order b.name.text.now a.name.text.now) (slice_cmp nat_cmp b.target.now a.target.now) (nat_cmp b.place a.place) h)

keys_rise : (xs : List NamedPlace) (n i j : ℕ) (d : NamedPlace) → AreInOrder xs → i + n ≡ j → j < length xs → is_gt (key_cmp (key_of (get_or xs i d)) (key_of (get_or xs j d))) ≡ false
keys_rise xs zero i j d sorted e lt =
    let same : i ≡ j = omega (arith, e) in
    ap is_gt (ap (λ k. key_cmp (key_of (get_or xs i d)) (key_of (get_or xs k d))) (sym same) ∙ tied_itself key_total (key_of (get_or xs i d)))
keys_rise xs (suc n) i j d sorted e lt =
    let k = i + n in
    let next : k + 1 ≡ j = omega (arith, e) in
    let before = keys_rise xs n i k d sorted refl (omega (arith, next, lt)) in
    let step = neighbours (get_or xs k d) (get_or xs (k + 1) d) (sorted k d (omega arith) (omega (arith, next, lt))) in
    upto key_total (key_of (get_or xs i d)) (key_of (get_or xs k d)) (key_of (get_or xs j d)) before (ap (λ m. is_gt (key_cmp (key_of (get_or xs k d)) (key_of (get_or xs m d)))) (sym next) ∙ step)

rises : (xs : List NamedPlace) (i j : ℕ) (d : NamedPlace) → AreInOrder xs → i ≤ j → j < length xs → is_gt (key_cmp (key_of (get_or xs i d)) (key_of (get_or xs j d))) ≡ false
rises xs i j d sorted le lt = keys_rise xs (j - i) i j d sorted (omega (arith, le)) lt

-- ---- the two tests

lt_is : (o : Ordering) → is_lt o ≡ true → o ≡ Less
lt_is Less h = refl
lt_is Equal h = absurd cc
lt_is Greater h = absurd cc

le_gt : (o : Ordering) → is_le o ≡ true → is_gt o ≡ false
le_gt Less h = refl
le_gt Equal h = refl
le_gt Greater h = absurd cc

gt_le : (o : Ordering) → is_gt o ≡ false → is_le o ≡ true
gt_le Less h = refl
gt_le Equal h = refl
gt_le Greater h = absurd cc

below_lt : (a b q : Text × Text) (o : Ordering) → key_cmp a b ≡ o → is_gt o ≡ false → is_lt (key_cmp b q) ≡ true → is_lt (key_cmp a q) ≡ true
below_lt a b q Less e n h = ap is_lt (key_total.trans a b q e (lt_is (key_cmp b q) h))
below_lt a b q Equal e n h = ap is_lt (key_total.congr a b q e) ∙ h
below_lt a b q Greater e n h = absurd cc

pub parted_lt : (xs : List NamedPlace) (q : Text × Text) → AreInOrder xs → IsPartitionedBy (λ y. is_lt (key_cmp (key_of y) q)) xs
parted_lt xs q sorted i j d le lt h = below_lt (key_of (get_or xs i d)) (key_of (get_or xs j d)) q (key_cmp (key_of (get_or xs i d)) (key_of (get_or xs j d))) refl (rises xs i j d sorted le lt) h

parted_le : (xs : List NamedPlace) (q : Text × Text) → AreInOrder xs → IsPartitionedBy (λ y. is_le (key_cmp (key_of y) q)) xs
parted_le xs q sorted i j d le lt h =
    gt_le (key_cmp (key_of (get_or xs i d)) q) (upto key_total (key_of (get_or xs i d)) (key_of (get_or xs j d)) q (rises xs i j d sorted le lt) (le_gt (key_cmp (key_of (get_or xs j d)) q) h))

-- what is left after a place is in order too
drop_sorted : (xs : List NamedPlace) (n : ℕ) → AreInOrder xs → AreInOrder (drop n xs)
drop_sorted xs n sorted k d low lt =
    let here = get_or-drop n xs k d in
    let next = get_or-drop n xs (k + 1) d in
    let at : n + k + 1 ≡ n + (k + 1) = omega arith in
    ap is_lt (ap (λ y. place_cmp y (get_or (drop n xs) k d)) (next ∙ ap (λ m. get_or xs m d) (sym at)) ∙ ap (place_cmp (get_or xs (n + k + 1) d)) here) ∙ sorted (n + k) d (omega arith) (omega (arith, lt, length-drop n xs))

pub parted_rest : (xs rest : List NamedPlace) (n : ℕ) (q : Text × Text) → AreInOrder xs → rest ≡ drop n xs → IsPartitionedBy (λ y. is_le (key_cmp (key_of y) q)) rest
parted_rest xs rest n q sorted is = parted_le rest q (subst AreInOrder (sym is) (drop_sorted xs n sorted))

-- ---- what is found

equal_key : (x : NamedPlace) (q : Text × Text) → key_of x ≡ q → key_cmp (key_of x) q ≡ Equal
equal_key x q e = ap (λ k. key_cmp k q) e ∙ tied_itself key_total q

place_among : (run : List NamedPlace) (x : NamedPlace) (k : ℕ) → Contains run x → x.place ≡ k → Contains (places_in run) k
place_among run x k (n, lt, is) e =
    let place : NamedPlace → ℕ = λ y. y.place in
    let here : slice_get (places_in run) n ≡ Some k = slice_get-map place run n ∙ ap (option_map place) (slice_get-get_or run n x lt ∙ ap (λ y. Some y) is) ∙ ap (λ m. Some m) e in
    (n, slice_get_within (places_in run) n k here, get_or_from_slice_get (places_in run) n k k here)

-- the places under the key are those after the lesser and before the greater ones
pub under_run : (xs rest run : List NamedPlace) (first count : ℕ) (name target : Text) → rest ≡ drop first xs → run ≡ take count rest
    → AllWithin (λ y. is_lt (key_cmp (key_of y) (sought_key name target)) ≡ true) xs 0 first → AllWithin (λ y. is_le (key_cmp (key_of y) (sought_key name target)) ≡ false) rest count (length rest)
    → (k : ℕ) → StandsUnder xs name target k → Contains (places_in run) k
under_run xs rest run first count name target is_rest is_run before behind k s =
    let x = s.there in
    let q = sought_key name target in
    let m = s.among.0 in
    let at : get_or xs m x ≡ x = s.among.2 in
    let equal = equal_key x q s.key in
    elim (cases_lt m first) [
      | inl low ↦ (
          let less : is_lt (key_cmp (key_of x) q) ≡ true = ap (λ y. is_lt (key_cmp (key_of y) q)) (sym at) ∙ before m x (omega arith) low in
          absurd (cc (less, equal)))
      | inr le ↦ (
          let n = m - first in
          let long : length rest ≡ length xs - first = ap length is_rest ∙ length-drop first xs in
          let within : n < length rest = omega (arith, le, s.among.1, long) in
          let back : first + n ≡ m = omega (arith, le) in
          let here : get_or rest n x ≡ x = ap (λ ys. get_or ys n x) is_rest ∙ get_or-drop first xs n x ∙ ap (λ j. get_or xs j x) back ∙ at in
          elim (cases_lt n count) [
            | inl lt ↦ (
                let there : get_or run n x ≡ x = ap (λ ys. get_or ys n x) is_run ∙ get_or-take count rest n x lt ∙ here in
                let short : n < length run = omega (arith, lt, within, ap length is_run ∙ length-take count rest) in
                place_among run x k (n, short, there) s.is)
            | inr past ↦ (
                let no : is_le (key_cmp (key_of x) q) ≡ false = ap (λ y. is_le (key_cmp (key_of y) q)) (sym here) ∙ behind n x past within in
                absurd (cc (no, equal)))
          ])
    ]

-- ---- how places are added

pub stands_push : (all : List NamedPlace) (y : NamedPlace) (name target : Text) (k : ℕ) → StandsUnder all name target k → StandsUnder (all ++ y ∷ []) name target k
stands_push all y name target k s = record { there = s.there; among = Contains-append_left all (y ∷ []) s.there s.among; key = s.key; is = s.is }

-- the items before a place are listed under their names
abbrev pub StandBelow : {A : Type 0} → (A → Text) → (A → Text) → List A → List NamedPlace → ℕ → Type 0
StandBelow {A} name target items places end = (k : ℕ) (x : A) → k < end → slice_get items k ≡ Some x → StandsUnder places (name x) (target x) k

-- one more item
pub stand_more : {A : Type 0} (name target : A → Text) (items : List A) (places : List NamedPlace) (n : ℕ) (x : A) (y : NamedPlace) → n < length items → x ≡ get_or items n x → key_of y ≡ sought_key (name x) (target x) → y.place ≡ n
    → StandBelow name target items places n → StandBelow name target items (places ++ y ∷ []) (n + 1)
stand_more name target items places n x y lt is key place h k z below at = elim (cases_lt k n) [
  | inl low ↦ stands_push places y (name z) (target z) k (h k z low at)
  | inr le ↦ (
      let same : n ≡ k = omega (arith, below, le) in
      let here : slice_get items n ≡ Some x = slice_get_read items (length items) n x refl lt is in
      let one : x ≡ z = same_Some x z (sym here ∙ ap (slice_get items) same ∙ at) in
      subst (λ v. StandsUnder (places ++ y ∷ []) (name v) (target v) k) one (record { there = y; among = Contains-push places y; key = key; is = place ∙ same }))
]

-- all items, sorted
pub all_stand : {A : Type 0} (name target : A → Text) (items : List A) (places sorted : List NamedPlace) (n : ℕ) → length items ≤ n → IsPermutation places sorted → AreInOrder sorted → StandBelow name target items places n
    → AreNamed name target items sorted
all_stand name target items places sorted n le moved order h = record {
  sorted = order;
  each = λ k x at.
      let s = h k x (omega (arith, le, slice_get_within items k x at)) at in
      record { there = s.there; among = Contains-permutation places sorted s.there moved s.among; key = s.key; is = s.is };
}

-- ---- what is found by name, for items with a view

pub named_seen : {A B : Type 0} (f : A → B) (name target : B → Text) (xs : List A) (places : List NamedPlace) → AreNamed (λ x. name (f x)) (λ x. target (f x)) xs places → AreNamed name target (map f xs) places
named_seen f name target xs places h = record {
  sorted = h.sorted;
  each = λ k y at.
      let s = seen_at f xs k y at in
      let stands = h.each k (get_or xs k s.0) (slice_get-get_or xs k s.0 s.1) in
      subst (λ v. StandsUnder places (name v) (target v) k) s.2 stands;
}
