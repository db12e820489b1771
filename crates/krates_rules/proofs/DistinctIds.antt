-- A list of ids, traversed with a set of those seen before: none occurs twice.
use Rattle.std.proofs.Common.{◌≡◌, ℕ, zero, suc, ◌+◌, ◌<◌, ◌≤◌, List, [], ◌∷◌, ◌++◌, length, get_or, take, Bool, true, false, ◌||◌, Some, not, Ordering, Less, Equal, Greater, refl, sym, ap, ◌∙◌, inl, inr, arith, subst, ◌↔◌, Bor}
use Rattle.std.proofs.Math.Bool.{or_assoc, or_comm}
use Rattle.std.proofs.lemmas.Bool.{cases_lt}
use Rattle.std.proofs.lemmas.List.{take_more, take_all}
use Rattle.std.proofs.lemmas.List.Folds.{list_any_more}
use Rattle.std.proofs.lemmas.Option.{slice_get_read}
use Rattle.std.specs.BTreeMap.{is_at}
use Rattle.std.specs.BTreeSet.{insert_key}
use Rattle.std.specs.List.{list_any, slice_get}
use Rattle.std.specs.Ordering.{is_eq, match_ordering}
use Rattle.krates_ids.specs.Identity.{Identity, IsSameId, id_cmp}
use Rattle.krates_rules.specs.DistinctIds.{IsDoubledAmong, AreDistinct}
use Rattle.krates_rules.specs.Facts.{Id}
use Rattle.krates_rules.specs.Resolved.{id_of}

-- the order says which ids are the same
abbrev pub OrderTellsSame : Type 0
OrderTellsSame = (a b : Identity) → (id_cmp a b ≡ Equal) ↔ IsSameId a b

-- whether the id compares as equal to one of the list
abbrev pub has_id : List Identity → Identity → Bool
has_id ids x = list_any (λ y. is_eq (id_cmp x y)) ids

abbrev pub has_seen : List (Bor Identity) → Identity → Bool
has_seen seen x = list_any (λ (y : Bor Identity). is_eq (id_cmp x y.now)) seen

-- ---- the set

insert_step : {K : Type 0} (cmp : K → K → Ordering) (p : K → Bool) (x k : K) (xs rest : List K) (r : Ordering) → (is_eq r || list_any (is_at (cmp k)) xs) ≡ false
    → (list_any (is_at (cmp k)) xs ≡ false → list_any p rest ≡ (list_any p xs || p k))
    → list_any p (match_ordering r (k ∷ x ∷ xs) (x ∷ xs) (x ∷ rest)) ≡ (p x || list_any p xs || p k)
insert_step cmp p x k xs rest Less none more = or_comm (p k) (p x || list_any p xs)
insert_step cmp p x k xs rest Equal none more = absurd cc
insert_step cmp p x k xs rest Greater none more = rw (more none) (sym (or_assoc (p x) (list_any p xs) (p k)))

-- a new key is one more to find
insert_any : {K : Type 0} (cmp : K → K → Ordering) (p : K → Bool) (ks : List K) (k : K) → list_any (is_at (cmp k)) ks ≡ false → list_any p (insert_key cmp ks k) ≡ (list_any p ks || p k)
insert_any cmp p [] k none = or_comm (p k) false
insert_any cmp p (x ∷ xs) k none = insert_step cmp p x k xs (insert_key cmp xs k) (cmp k x) none (insert_any cmp p xs k)

pub seen_more : (seen : List (Bor Identity)) (key : Bor Identity) (ids : List Identity) (i : ℕ) → i < length ids → key.now ≡ get_or ids i key.now
    → ((x : Identity) → has_seen seen x ≡ has_id (take i ids) x) → has_seen seen key.now ≡ false
    → (x : Identity) → has_seen (insert_key (λ a b. id_cmp a.now b.now) seen key) x ≡ has_id (take (i + 1) ids) x
seen_more seen key ids i lt is same none x =
    let q : Identity → Bool = λ y. is_eq (id_cmp x y) in
    let grown = insert_any (λ (a b : Bor Identity). id_cmp a.now b.now) (λ (y : Bor Identity). q y.now) seen key none in
    grown ∙ ap (λ b. b || q key.now) (same x) ∙ ap (λ z. has_id (take i ids) x || q z) is ∙ sym (list_any_more q ids i key.now lt)

-- ---- the list

get_front : (xs : List Identity) (x : Identity) (k : ℕ) (a : Identity) → k < length xs → slice_get (xs ++ x ∷ []) k ≡ Some a → slice_get xs k ≡ Some a
get_front [] x k a lt h = absurd (omega arith)
get_front (y ∷ ys) x zero a lt h = h
get_front (y ∷ ys) x (suc k) a lt h = get_front ys x k a (omega arith) h

get_last : (xs : List Identity) (x : Identity) (k : ℕ) (a : Identity) → length xs ≤ k → slice_get (xs ++ x ∷ []) k ≡ Some a → (k ≡ length xs) × (a ≡ x)
get_last [] x zero a le h = (refl, cc)
get_last [] x (suc k) a le h = absurd cc
get_last (y ∷ ys) x zero a le h = absurd (omega arith)
get_last (y ∷ ys) x (suc k) a le h = let w = get_last ys x k a (omega arith) h in (ap suc w.0, w.1)

has_at : (xs : List Identity) (k : ℕ) (a x : Identity) → slice_get xs k ≡ Some a → id_cmp x a ≡ Equal → has_id xs x ≡ true
has_at [] k a x h e = absurd cc
has_at (y ∷ ys) zero a x h e = let same : y ≡ a = cc in rw (same, e) refl
has_at (y ∷ ys) (suc k) a x h e = rw (has_at ys k a x h e) (or_comm (is_eq (id_cmp x y)) true)

pub same_of : (a b : Identity) → id_of a ≡ id_of b → IsSameId a b
same_of a b e = record { name = ap (λ (i : Id). i.name) e; version = ap (λ (i : Id). i.version) e; source = ap (λ (i : Id). i.source) e }

pub id_of_same : (a b : Identity) → IsSameId a b → id_of a ≡ id_of b
id_of_same a b s = rw (s.name, s.version, s.source) refl

-- ids compare as equal exactly where they are the same id
pub id_tells : OrderTellsSame → (a b : Identity) → (id_cmp a b ≡ Equal) ↔ (id_of a ≡ id_of b)
id_tells tells a b = (λ h. id_of_same a b ((tells a b).0 h), λ e. (tells a b).1 (same_of a b e))

distinct_push : OrderTellsSame → (xs : List Identity) (x : Identity) → AreDistinct xs → has_id xs x ≡ false → AreDistinct (xs ++ x ∷ [])
distinct_push tells xs x distinct none id t = elim (cases_lt t.second (length xs)) [
  | inl lt ↦ distinct id (record {
    first = t.first;
    second = t.second;
    apart = t.apart;
    one = t.one;
    other = t.other;
    at_first = get_front xs x t.first t.one (omega (arith, t.apart)) t.at_first;
    at_second = get_front xs x t.second t.other lt t.at_second;
    one_holds = t.one_holds;
    other_holds = t.other_holds;
  })
  | inr le ↦ (
      let w = get_last xs x t.second t.other le t.at_second in
      let lt : t.first < length xs = omega (arith, t.apart, w.0) in
      let same : IsSameId x t.one = same_of x t.one (ap id_of (sym w.1) ∙ t.other_holds ∙ sym t.one_holds) in
      let found : has_id xs x ≡ true = has_at xs t.first t.one x (get_front xs x t.first t.one lt t.at_first) ((tells x t.one).1 same) in
      absurd (cc (found, none)))
]

-- one more id, which wasn't seen before
pub distinct_more : OrderTellsSame → (ids : List Identity) (i : ℕ) (x : Identity) → i < length ids → x ≡ get_or ids i x → AreDistinct (take i ids) → has_id (take i ids) x ≡ false → AreDistinct (take (i + 1) ids)
distinct_more tells ids i x lt is distinct none = subst AreDistinct (sym (take_more ids i x lt ∙ ap (λ y. take i ids ++ y ∷ []) (sym is))) (distinct_push tells (take i ids) x distinct none)

pub distinct_all : (ids : List Identity) (i : ℕ) → length ids ≤ i → AreDistinct (take i ids) → AreDistinct ids
distinct_all ids i le distinct = subst AreDistinct (take_all i ids le) distinct

-- the place of an id that compares as equal
record Place (xs : List Identity) (x : Identity) : Type 0 where
  at : ℕ
  there : Identity
  is : slice_get xs at ≡ Some there
  equal : id_cmp x there ≡ Equal

next_place : (y : Identity) (ys : List Identity) (x : Identity) → Place ys x → Place (y ∷ ys) x
next_place y ys x w = record { at = suc w.at; there = w.there; is = w.is; equal = w.equal }

place_step : (y : Identity) (ys : List Identity) (x : Identity) (r : Ordering) → id_cmp x y ≡ r → (is_eq r || has_id ys x) ≡ true → (has_id ys x ≡ true → Place ys x) → Place (y ∷ ys) x
place_step y ys x Less e h more = next_place y ys x (more h)
place_step y ys x Equal e h more = record { at = zero; there = y; is = refl; equal = e }
place_step y ys x Greater e h more = next_place y ys x (more h)

place_of : (xs : List Identity) (x : Identity) → has_id xs x ≡ true → Place xs x
place_of [] x h = absurd cc
place_of (y ∷ ys) x h = place_step y ys x (id_cmp x y) refl h (place_of ys x)

get_take : (xs : List Identity) (i k : ℕ) (a : Identity) → slice_get (take i xs) k ≡ Some a → (k < i) × (slice_get xs k ≡ Some a)
get_take [] zero k a h = absurd cc
get_take [] (suc i) k a h = absurd cc
get_take (x ∷ xs) zero k a h = absurd cc
get_take (x ∷ xs) (suc i) zero a h = (omega arith, h)
get_take (x ∷ xs) (suc i) (suc k) a h = let w = get_take xs i k a h in (omega (arith, w.0), w.1)

-- an id that was seen before occurs twice
pub seen_twice : OrderTellsSame → (ids : List Identity) (i : ℕ) (x : Identity) → i < length ids → x ≡ get_or ids i x → has_id (take i ids) x ≡ true → IsDoubledAmong ids (id_of x)
seen_twice tells ids i x lt is has =
    let w = place_of (take i ids) x has in
    let g = get_take ids i w.at w.there w.is in
    record {
      first = w.at;
      second = i;
      apart = g.0;
      one = w.there;
      other = x;
      at_first = g.1;
      at_second = slice_get_read ids (length ids) i x refl lt is;
      one_holds = sym (id_of_same x w.there ((tells x w.there).0 w.equal));
      other_holds = refl;
    }

pub not_false : (b : Bool) → false ≡ not b → b ≡ true
not_false true h = refl
not_false false h = absurd cc

pub not_true : (b : Bool) → true ≡ not b → b ≡ false
not_true true h = absurd cc
not_true false h = refl
