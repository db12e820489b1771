-- The numbers in the list of a number, and those that are reached.
use Rattle.std.proofs.Common.{◌≡◌, ◌∙◌, ℕ, ◌<◌, List, [], All, Contains, Option, None, Some, length, slice_get, sym, ap, subst, unwrap_or, inl, inr, arith}
use Rattle.std.proofs.lemmas.Bool.{cases_lt}
use Rattle.std.proofs.lemmas.List.{get_or_past}
use Rattle.std.proofs.lemmas.List.Elements.{All-contains}
use Rattle.std.proofs.lemmas.Option.{get_or_from_slice_get, slice_get-get_or, slice_get_within, unwrap_or-slice_get}
use Rattle.krates_drawing.specs.Paths.{Reaches, begins, goes_on}
use Rattle.krates_answers.specs.DirectLinks.{AreInside, IsListed}
use Rattle.krates_answers.specs.Tree.{list_of}

pub list_of-none : (lists : List (List ℕ)) (n : ℕ) → slice_get lists n ≡ None → list_of lists n ≡ []
list_of-none lists n none = sym (unwrap_or-slice_get lists n []) ∙ ap (λ (o : Option (List ℕ)). unwrap_or o []) none

pub list_of-some : (lists : List (List ℕ)) (n : ℕ) (list : List ℕ) → slice_get lists n ≡ Some list → list_of lists n ≡ list
list_of-some lists n list some = get_or_from_slice_get lists n list [] some

pub in_nothing : (n : ℕ) → Contains [] n → ⊥
in_nothing n c = omega (arith, c.1)

pub IsListed-from_among : (lists : List (List ℕ)) (n c : ℕ) → Contains (list_of lists n) c → IsListed lists n c
IsListed-from_among lists n c among = elim (cases_lt n (length lists)) [
  | inl lt ↦ record { list = list_of lists n; at = slice_get-get_or lists n [] lt; among = among }
  | inr past ↦ absurd (in_nothing c (subst (λ (ns : List ℕ). Contains ns c) (get_or_past lists n [] past) among))
]

pub among_listed : (lists : List (List ℕ)) (n c : ℕ) → IsListed lists n c → Contains (list_of lists n) c
among_listed lists n c w = subst (λ (ns : List ℕ). Contains ns c) (sym (list_of-some lists n w.list w.at)) w.among

-- what is reached has a list, where the starts do
pub reached_within : (lists : List (List ℕ)) (roots : List ℕ) → AreInside lists → All (λ n. n < length lists) roots → (n : ℕ) → Reaches (IsListed lists) (Contains roots) n → n < length lists
reached_within lists roots inside began _ (begins {n} start) = All-contains (λ j. j < length lists) roots n began start
reached_within lists roots inside began _ (goes_on {n} {m} before leads) =
    All-contains (λ j. j < length lists) (list_of lists n) m (inside n [] (slice_get_within lists n leads.list leads.at)) (among_listed lists n m leads)
