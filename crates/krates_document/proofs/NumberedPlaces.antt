-- A table of places by number, filled place by place.
use Rattle.std.proofs.Common.{◌≡◌, ℕ, ◌+◌, ◌<◌, ◌≤◌, List, Option, Some, None, MatchOption, IfSome, Equal, length, map, get_or, slice_get, refl, sym, ap, ◌∙◌, inl, inr, arith, subst, replicate}
use Rattle.std.specs.Option.{option_map, option_or}
use Rattle.std.proofs.Math.ListN.{set}
use Rattle.std.proofs.lemmas.Bool.{cases_eq, cases_lt, cases_order}
use Rattle.std.proofs.lemmas.Cmp.{then_total, on_total, nat_list_cmp_total}
use Rattle.std.proofs.lemmas.List.{get_or-set_same, get_or-set_other, get_or-replicate, length-replicate, length-set}
use Rattle.std.proofs.lemmas.Map.Keys.{Less-from_sorted}
use Rattle.std.proofs.lemmas.Option.{same_Some, slice_get_within, slice_get-get_or, slice_get-map, get_or_from_slice_get}
use Rattle.std.specs.Cmp.{IsTotalOrder}
use Rattle.krates_ids.specs.Identity.{Identity}
use Rattle.krates_rules.specs.DistinctIds.{AreDistinct}
use Rattle.krates_rules.specs.Facts.{Id}
use Rattle.krates_rules.specs.Referent.{id_order}
use Rattle.krates_rules.specs.Resolved.{id_of}
use Rattle.krates_rules.proofs.FirstPlaces.{seen_at}
use Rattle.krates_rules.proofs.OrderedIds.{stands}
use Rattle.krates_rules.proofs.Readings.{left_of, right_of}
use Rattle.krates_document.specs.CrateTable.{Among, AreNumbered, AreNumbersBelow, AreNumbersOf, ArePlacesOf, HasDoubledAt, IsDoubledAt, IsIndex, IsNumberOf, IsPlaceOf, IsWhere, TellsDoubled, TellsDoubledId, at_number}
use Rattle.krates_rules.proofs.SeenInOrder.{equal_self}

-- ids are in one order
pub id_order_total : IsTotalOrder id_order
id_order_total = then_total (on_total (λ (i : Id). i.name) nat_list_cmp_total) (then_total (on_total (λ (i : Id). i.version) nat_list_cmp_total) (on_total (λ (i : Id). i.source) nat_list_cmp_total))

not_before : (ids : List Id) (m n : ℕ) (i : Id) → AreNumbered ids → slice_get ids m ≡ Some i → slice_get ids n ≡ Some i → m < n → ⊥
not_before ids m n i sorted at other lt =
    let less = Less-from_sorted id_order ids m n i sorted lt (slice_get_within ids n i other) in
    let equal : id_order (get_or ids m i) (get_or ids n i) ≡ Equal =
    rw (get_or_from_slice_get ids m i i at, get_or_from_slice_get ids n i i other) (equal_self id_order_total i) in
    absurd (cc (less, equal))

-- an id has only one number
pub one_number : (ids : List Id) (m n : ℕ) (i : Id) → AreNumbered ids → slice_get ids m ≡ Some i → slice_get ids n ≡ Some i → m ≡ n
one_number ids m n i sorted at other = elim (cases_order m n) [
  | inl e ↦ e
  | inr r ↦ elim r [
    | inl l ↦ absurd (not_before ids m n i sorted at other l)
    | inr l ↦ absurd (not_before ids n m i sorted other at l)
  ]
]

-- where a number is before a place
abbrev pub IsWhereBelow : List (Option ℕ) → ℕ → ℕ → Option ℕ → Type 0
IsWhereBelow numbers n k answer = MatchOption answer ((p : ℕ) → p < k → slice_get numbers p ≡ Some (Some n) → ⊥) (λ p. (p < k) × (slice_get numbers p ≡ Some (Some n)))

-- a place at which a number occurs again, or none before a place
abbrev pub TellsDoubledBelow : List (Option ℕ) → ℕ → Option ℕ → Type 0
TellsDoubledBelow numbers k answer = MatchOption answer ((p : ℕ) → p < k → IsDoubledAt numbers p → ⊥) (IsDoubledAt numbers)

pub record ArePlacesBelow (count : ℕ) (numbers : List (Option ℕ)) (k : ℕ) (places : List (Option ℕ)) (doubled : Option ℕ) : Type 0 where
  pub long : length places ≡ count
  pub each : (n : ℕ) → n < count → IsWhereBelow numbers n k (get_or places n None)
  pub again : TellsDoubledBelow numbers k doubled

pub no_places : (count : ℕ) (numbers : List (Option ℕ)) → ArePlacesBelow count numbers 0 (replicate count None) None
no_places count numbers = record {
  long = length-replicate count None;
  each = λ n lt. subst (IsWhereBelow numbers n 0) (sym (get_or-replicate count n None None lt)) (λ p below s. absurd (omega (arith, below)));
  again = λ p below d. absurd (omega (arith, below));
}

later : (numbers : List (Option ℕ)) (n k : ℕ) (there answer : Option ℕ) → slice_get numbers k ≡ Some there → (there ≡ Some n → ⊥) → IsWhereBelow numbers n k answer → IsWhereBelow numbers n (k + 1) answer
later numbers n k there (Some p) here other h = (omega (arith, h.0), h.1)
later numbers n k there None here other h = λ p below s. elim (cases_lt p k) [
  | inl lt ↦ h p lt s
  | inr le ↦ (
      let e : p ≡ k = omega (arith, le, below) in
      other (same_Some there (Some n) (sym here ∙ sym (ap (slice_get numbers) e) ∙ s)))
]

-- what is known of a number that is already there
still : (numbers : List (Option ℕ)) (n k : ℕ) (answer : Option ℕ) → (answer ≡ None → ⊥) → IsWhereBelow numbers n k answer → IsWhereBelow numbers n (k + 1) answer
still numbers n k (Some p) some h = (omega (arith, h.0), h.1)
still numbers n k None some h = absurd (some refl)

-- no number occurs again at the next place
unrepeated : (numbers : List (Option ℕ)) (k : ℕ) (doubled : Option ℕ) → (IsDoubledAt numbers k → ⊥) → TellsDoubledBelow numbers k doubled → TellsDoubledBelow numbers (k + 1) doubled
unrepeated numbers k (Some p) none h = h
unrepeated numbers k None none h = λ p below d. elim (cases_lt p k) [
  | inl lt ↦ h p lt d
  | inr le ↦ (let e : p ≡ k = omega (arith, le, below) in none (subst (IsDoubledAt numbers) e d))
]

-- nothing has a number at the next place
pub places_same : (count : ℕ) (numbers : List (Option ℕ)) (k : ℕ) (places : List (Option ℕ)) (doubled : Option ℕ) → slice_get numbers k ≡ Some None → ArePlacesBelow count numbers k places doubled → ArePlacesBelow count numbers (k + 1) places doubled
places_same count numbers k places doubled here h = record {
  long = h.long;
  each = λ n lt. later numbers n k None (get_or places n None) here (λ e. cc e) (h.each n lt);
  again = unrepeated numbers k doubled (λ d. cc (same_Some None (Some d.number) (sym here ∙ d.at_second))) h.again;
}

unseen : (numbers : List (Option ℕ)) (k m : ℕ) (answer : Option ℕ) → slice_get numbers k ≡ Some (Some m) → answer ≡ None → IsWhereBelow numbers m k answer → IsDoubledAt numbers k → ⊥
unseen numbers k m (Some p) here none h d = cc none
unseen numbers k m None here none h d =
    let e : m ≡ d.number = same_Some m d.number (same_Some (Some m) (Some d.number) (sym here ∙ d.at_second)) in
    h d.first d.earlier (d.at_first ∙ ap (λ (j : ℕ). Some (Some j)) (sym e))

-- one more place
pub places_more : (count : ℕ) (numbers : List (Option ℕ)) (k m : ℕ) (places : List (Option ℕ)) (doubled : Option ℕ) → m < count → slice_get numbers k ≡ Some (Some m) → get_or places m None ≡ None → ArePlacesBelow count numbers k places doubled
    → ArePlacesBelow count numbers (k + 1) (set places m (Some k)) doubled
places_more count numbers k m places doubled low here none h =
    let lt : m < length places = omega (arith, low, h.long) in
    record {
      long = length-set places m (Some k) ∙ h.long;
      each = λ n below. elim (cases_eq n m) [
        | inl e ↦ subst (IsWhereBelow numbers n (k + 1)) (sym (ap (λ (j : ℕ). get_or (set places m (Some k)) j None) e ∙ get_or-set_same places m (Some k) None lt)) (omega arith, here ∙ ap (λ (j : ℕ). Some (Some j)) (sym e))
        | inr ne ↦ subst (IsWhereBelow numbers n (k + 1)) (sym (get_or-set_other places m n (Some k) None ne)) (later numbers n k (Some m) (get_or places n None) here (λ e. ne (sym (same_Some m n e))) (h.each n below))
      ];
      again = unrepeated numbers k doubled (unseen numbers k m (get_or places m None) here none (h.each m low)) h.again;
    }

seen_again : (numbers : List (Option ℕ)) (k m p : ℕ) (answer : Option ℕ) → slice_get numbers k ≡ Some (Some m) → answer ≡ Some p → IsWhereBelow numbers m k answer → IsDoubledAt numbers k
seen_again numbers k m p None here is h = absurd (cc is)
seen_again numbers k m p (Some q) here is h = record { number = m; first = q; earlier = h.0; at_first = h.1; at_second = here }

first_again : (numbers : List (Option ℕ)) (k : ℕ) (doubled : Option ℕ) → IsDoubledAt numbers k → TellsDoubledBelow numbers k doubled → TellsDoubledBelow numbers (k + 1) (option_or doubled (Some k))
first_again numbers k None d h = d
first_again numbers k (Some p) d h = h

-- a number occurs again
pub places_again : (count : ℕ) (numbers : List (Option ℕ)) (k m p : ℕ) (places : List (Option ℕ)) (doubled : Option ℕ) → m < count → slice_get numbers k ≡ Some (Some m) → get_or places m None ≡ Some p → ArePlacesBelow count numbers k places doubled
    → ArePlacesBelow count numbers (k + 1) places (option_or doubled (Some k))
places_again count numbers k m p places doubled low here is h = record {
  long = h.long;
  each = λ n below. elim (cases_eq n m) [
    | inl e ↦ still numbers n k (get_or places n None) (λ none. cc (sym is, ap (λ (j : ℕ). get_or places j None) (sym e), none)) (h.each n below)
    | inr ne ↦ later numbers n k (Some m) (get_or places n None) here (λ e. ne (sym (same_Some m n e))) (h.each n below)
  ];
  again = first_again numbers k doubled (seen_again numbers k m p (get_or places m None) here is (h.each m low)) h.again;
}

whole : (numbers : List (Option ℕ)) (n k : ℕ) (answer : Option ℕ) → length numbers ≤ k → IsWhereBelow numbers n k answer → IsWhere numbers n answer
whole numbers n k None le h = λ p s. h p (omega (arith, le, slice_get_within numbers p (Some n) s)) s
whole numbers n k (Some p) le h = h.1

pub places_whole : (count : ℕ) (numbers : List (Option ℕ)) (k : ℕ) (places : List (Option ℕ)) (doubled : Option ℕ) → length numbers ≤ k → ArePlacesBelow count numbers k places doubled → ArePlacesOf count numbers places
places_whole count numbers k places doubled le h = record { long = h.long; each = λ n lt. whole numbers n k (get_or places n None) le (h.each n lt) }

pub doubled_whole : (numbers : List (Option ℕ)) (k : ℕ) (doubled : Option ℕ) → length numbers ≤ k → TellsDoubledBelow numbers k doubled → TellsDoubled numbers doubled
doubled_whole numbers k None le h = λ p d. h p (omega (arith, le, slice_get_within numbers p (Some d.number) d.at_second)) d
doubled_whole numbers k (Some p) le h = h

-- ---- places of ids by places of their numbers

-- an id that is numbered, and whose number occurs nowhere
unplaced : (ids : List Id) (numbers : List (Option ℕ)) (n p : ℕ) (i : Id) (o : Option ℕ) → AreNumbered ids → slice_get ids n ≡ Some i → IsNumberOf ids i o → slice_get numbers p ≡ Some o → (slice_get numbers p ≡ Some (Some n) → ⊥) → ⊥
unplaced ids numbers n p i None sorted at number here none = number n at
unplaced ids numbers n p i (Some m) sorted at number here none = none (here ∙ ap (λ (j : ℕ). Some (Some j)) (one_number ids m n i sorted number at))

placed : (ids : List Id) (list : List Identity) (numbers : List (Option ℕ)) (n : ℕ) (i : Id) (answer : Option ℕ) → AreNumbered ids → slice_get ids n ≡ Some i → AreNumbersOf ids list numbers → IsWhere numbers n answer → IsNumberOf (map id_of list) i answer
placed ids list numbers n i (Some p) sorted at are here =
    let w = left_of (IsNumberOf ids) (map id_of list) numbers p (Some n) are here in
    w.1 ∙ ap (λ (j : Id). Some j) (same_Some w.0 i (sym w.2 ∙ at))
placed ids list numbers n i None sorted at are none = λ p s.
    let w = right_of (IsNumberOf ids) (map id_of list) numbers p i are s in
    unplaced ids numbers n p i w.0 sorted at w.2 w.1 (none p)

-- the numbers of ids are below their count
pub numbers_below : (ids : List Id) (list : List Identity) (numbers : List (Option ℕ)) → AreNumbersOf ids list numbers → AreNumbersBelow (length ids) numbers
numbers_below ids list numbers are p n at =
    let w = left_of (IsNumberOf ids) (map id_of list) numbers p (Some n) are at in
    slice_get_within ids n w.0 w.2

pub index_by : (ids : List Id) (list : List Identity) (numbers places : List (Option ℕ)) → AreNumbered ids → Among list ids → AreNumbersOf ids list numbers → ArePlacesOf (length ids) numbers places → IsIndex ids list places
index_by ids list numbers places sorted among are h = record {
  among = among;
  long = h.long;
  each = λ n i at. placed ids list numbers n i (get_or places n None) sorted at are (h.each n (slice_get_within ids n i at));
}

-- ---- ids that occur twice

-- the id at a place of a list
id_there : (list : List Identity) (p : ℕ) (i : Id) → slice_get (map id_of list) p ≡ Some i → (k : Identity) × (slice_get list p ≡ Some k) × (id_of k ≡ i)
id_there list p i at = let y = seen_at id_of list p i at in (get_or list p y.0, slice_get-get_or list p y.0 y.1, y.2)

doubled_there : (ids : List Id) (list : List Identity) (numbers : List (Option ℕ)) (place : ℕ) → AreNumbersOf ids list numbers → IsDoubledAt numbers place → HasDoubledAt list place
doubled_there ids list numbers place are d =
    let v = left_of (IsNumberOf ids) (map id_of list) numbers d.first (Some d.number) are d.at_first in
    let w = left_of (IsNumberOf ids) (map id_of list) numbers place (Some d.number) are d.at_second in
    let one = id_there list d.first v.0 v.1 in
    let other = id_there list place w.0 w.1 in
    let same : v.0 ≡ w.0 = same_Some v.0 w.0 (sym v.2 ∙ w.2) in
    record {
      there = other.0;
      at = other.1;
      twice = record {
        first = d.first;
        second = place;
        apart = d.earlier;
        one = one.0;
        other = other.0;
        at_first = one.1;
        at_second = other.1;
        one_holds = one.2 ∙ same ∙ sym other.2;
        other_holds = refl;
      };
    }

-- an id of the list has a number
number_there : (ids : List Id) (list : List Identity) (numbers : List (Option ℕ)) (p : ℕ) (k : Identity) (i : Id) → Among list ids → AreNumbersOf ids list numbers → slice_get list p ≡ Some k → id_of k ≡ i
    → (n : ℕ) × (slice_get numbers p ≡ Some (Some n)) × (slice_get ids n ≡ Some i)
number_there ids list numbers p k i among are at is =
    let here : slice_get (map id_of list) p ≡ Some i = slice_get-map id_of list p ∙ ap (option_map id_of) at ∙ ap (λ (j : Id). Some j) is in
    let w = right_of (IsNumberOf ids) (map id_of list) numbers p i are here in
    by here w.0 w.1 w.2
  where
    by : slice_get (map id_of list) p ≡ Some i → (o : Option ℕ) → slice_get numbers p ≡ Some o → IsNumberOf ids i o → (n : ℕ) × (slice_get numbers p ≡ Some (Some n)) × (slice_get ids n ≡ Some i)
    by here None there number = absurd (among i number p here)
    by here (Some n) there number = (n, there, number)

none_twice : (ids : List Id) (list : List Identity) (numbers : List (Option ℕ)) → AreNumbered ids → Among list ids → AreNumbersOf ids list numbers → ((place : ℕ) → IsDoubledAt numbers place → ⊥) → AreDistinct list
none_twice ids list numbers sorted among are none i t =
    let m = number_there ids list numbers t.first t.one i among are t.at_first t.one_holds in
    let n = number_there ids list numbers t.second t.other i among are t.at_second t.other_holds in
    let e : m.0 ≡ n.0 = one_number ids m.0 n.0 i sorted m.2 n.2 in
    none t.second (record { number = n.0; first = t.first; earlier = t.apart; at_first = m.1 ∙ ap (λ (j : ℕ). Some (Some j)) e; at_second = n.1 })

-- what is said of numbers is said of their ids
pub doubled_ids : (ids : List Id) (list : List Identity) (numbers : List (Option ℕ)) (answer : Option ℕ) → AreNumbered ids → Among list ids → AreNumbersOf ids list numbers → TellsDoubled numbers answer → TellsDoubledId list answer
doubled_ids ids list numbers None sorted among are h = none_twice ids list numbers sorted among are h
doubled_ids ids list numbers (Some p) sorted among are h = doubled_there ids list numbers p are h

-- ---- what is at a number

-- a number among the ids of a list is a place
place_of_number : (list : List Identity) (i : Id) (answer : Option ℕ) → IsNumberOf (map id_of list) i answer → IsPlaceOf list i answer
place_of_number list i None none = λ p s. none p (slice_get-map id_of list p ∙ ap (option_map id_of) s.at ∙ ap (λ (j : Id). Some j) s.same)
place_of_number list i (Some p) at = let y = seen_at id_of list p i at in stands list i p y.0 y.1 y.2

pub index_answer : (ids : List Id) (list : List Identity) (places : List (Option ℕ)) (i : Id) (number : Option ℕ) → IsIndex ids list places → IsNumberOf ids i number → IsPlaceOf list i (at_number places number)
index_answer ids list places i None h none = place_of_number list i None (h.among i none)
index_answer ids list places i (Some n) h at = place_of_number list i (get_or places n None) (h.each n i at)

pub index_within : (ids : List Id) (list : List Identity) (places : List (Option ℕ)) (i : Id) (number : Option ℕ) → IsIndex ids list places → IsNumberOf ids i number → IfSome number (λ n. n < length places)
index_within ids list places i None h none = tt
index_within ids list places i (Some n) h at = subst (λ (m : ℕ). n < m) (sym h.long) (slice_get_within ids n i at)
