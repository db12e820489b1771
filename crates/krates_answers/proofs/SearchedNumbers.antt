-- A number that is looked for in an ascending list, and the list of a number.
use Rattle.std.proofs.Common.{◌≡◌, ◌↔◌, ℕ, ◌<◌, ◌≤◌, Bool, List, [], length, get_or, All, Contains, Some, None, Result, Ok, Err, IsTrue, is_ok, option_map, slice_get, refl, sym, ap, ◌∙◌, subst, inl, inr, arith}
use Rattle.std.proofs.lemmas.Bool.{cases_lt}
use Rattle.std.proofs.lemmas.List.{get_or_default}
use Rattle.std.proofs.lemmas.List.Elements.{All-get_or}
use Rattle.std.proofs.lemmas.List.Sorted.{searched}
use Rattle.std.proofs.lemmas.Map.Keys.{non_decreasing_from_sorted, sorted_from_strictly_increasing}
use Rattle.std.proofs.lemmas.Option.{get_or_from_slice_get, same_Some, slice_get-map, slice_get_within}
use Rattle.std.specs.Global.{Vec}
use Rattle.std.specs.List.Sorted.{IsBinarySearchResult, IsStrictlyIncreasing}
use Rattle.std.specs.Ordering.{nat_cmp}
use Rattle.std.specs.Result.{MatchResult}
use Rattle.krates_answers.specs.DirectLinks.{AreStored, IsListed, items_of}

-- ---- in an ascending list

in_result : (xs : List ℕ) (x : ℕ) (r : Result ℕ ℕ)
    → MatchResult r (λ i. (i < length xs) × (get_or xs i 0 ≡ x)) (λ i. (i ≤ length xs) × ((k : ℕ) → k < i → get_or xs k 0 < x) × ((k : ℕ) → i ≤ k → k < length xs → x < get_or xs k 0))
    → IsTrue (is_ok r) ↔ Contains xs x
in_result xs x (Ok i) s = (λ t. (i, s.0, get_or_default xs i x 0 s.0 ∙ s.1), λ c. refl)
in_result xs x (Err i) s = (
  λ t. absurd cc,
  λ c.
      (let at : get_or xs c.0 0 ≡ x = sym (get_or_default xs c.0 x 0 c.1) ∙ c.2 in
      let none : ⊥ = elim (cases_lt c.0 i) [
        | inl lower ↦ (let less = s.1 c.0 lower in omega (arith, less, at))
        | inr higher ↦ (let more = s.2 c.0 higher c.1 in omega (arith, more, at))
      ] in
      absurd none),
)

pub found_in : (xs : List ℕ) (x : ℕ) (r : Result ℕ ℕ) → IsStrictlyIncreasing xs → IsBinarySearchResult (λ y. nat_cmp y x) xs r → IsTrue (is_ok r) ↔ Contains xs x
found_in xs x r up is = in_result xs x r (searched xs x r is (λ i j le lt. non_decreasing_from_sorted xs (sorted_from_strictly_increasing xs up) i j 0 le lt))

-- ---- in the list of a number

pub leads_to : (lists : List (List ℕ)) (a b : ℕ) (list : List ℕ) (answer : Bool) → slice_get lists a ≡ Some list → IsTrue answer ↔ Contains list b → IsTrue answer ↔ IsListed lists a b
leads_to lists a b list answer at same = (
  λ t. record { list = list; at = at; among = same.0 t },
  λ w. same.1 (subst (λ (xs : List ℕ). Contains xs b) (same_Some w.list list (sym w.at ∙ at)) w.among),
)

pub no_list : (lists : List (Vec ℕ)) (a : ℕ) → slice_get lists a ≡ None → slice_get (items_of lists) a ≡ None
no_list lists a none = slice_get-map (λ (v : Vec ℕ). v.items) lists a ∙ ap (option_map (λ (v : Vec ℕ). v.items)) none

-- what holds of all links, said of one list
abbrev pub StoredList : List (Vec ℕ) → ℕ → Vec ℕ → Type 0
StoredList lists a vector = (slice_get (items_of lists) a ≡ Some vector.items) × IsStrictlyIncreasing vector.items × All (λ n. n < length (items_of lists)) vector.items

pub stored_list : (lists : List (Vec ℕ)) (a : ℕ) (vector : Vec ℕ) → AreStored (items_of lists) → slice_get lists a ≡ Some vector → StoredList lists a vector
stored_list lists a vector stored at =
    let all : List (List ℕ) = items_of lists in
    let there : slice_get all a ≡ Some vector.items = slice_get-map (λ (v : Vec ℕ). v.items) lists a ∙ ap (option_map (λ (v : Vec ℕ). v.items)) at in
    let lt = slice_get_within all a vector.items there in
    let is = get_or_from_slice_get all a vector.items [] there in (
      there,
      subst IsStrictlyIncreasing is (All-get_or IsStrictlyIncreasing all a [] lt stored.ascending),
      subst (All (λ n. n < length all)) is (All-get_or (λ list. All (λ n. n < length all) list) all a [] lt stored.inside),
    )
