-- What is derivable by clauses, and what the steps of a derivation give.
use Rattle.std.proofs.Common.{◌≡◌, ℕ, zero, suc, ◌<◌, ◌≤◌, List, [], ◌∷◌, ◌++◌, Some, length, get_or, take, sym, ◌∙◌, ap, inl, inr, arith, length-append}
use Rattle.std.specs.List.{Contains, cons_option, slice_get}
use Rattle.std.specs.Option.{option_map}
use Rattle.std.proofs.lemmas.Bool.{cases_lt}
use Rattle.std.proofs.lemmas.List.{take-append-le, get_or_append_left}
use Rattle.std.proofs.lemmas.List.Elements.{Contains-push_cases, filter_map-append}
use Rattle.std.proofs.lemmas.Option.{get_or_from_slice_get, slice_get-get_or, slice_get_within}
use Rattle.std.proofs.Math.Seq.{get_or-append_seam, take-append_seam, take-length, take-suc}
use Rattle.krates_closure.specs.Clauses.{ClauseModel}
use Rattle.krates_closure.specs.Closure.{Derivable, by_clause, IsDerivation, MayFollow, given_by}

-- what stands at a number is among all
pub Contains-slice_get : {X : Type 0} (xs : List X) (number : ℕ) (x : X) → slice_get xs number ≡ Some x → Contains xs x
Contains-slice_get xs number x at = (number, slice_get_within xs number x at, get_or_from_slice_get xs number x x at)

-- one more step gives the fact of its clause
pub given_by-push : (clauses : List ClauseModel) (steps : List ℕ) (step : ℕ) (clause : ClauseModel) → slice_get clauses step ≡ Some clause
    → given_by clauses (steps ++ step ∷ []) ≡ given_by clauses steps ++ clause.fact ∷ []
given_by-push clauses steps step clause at =
    filter_map-append (λ n. option_map (λ (c : ClauseModel). c.fact) (slice_get clauses n)) steps (step ∷ [])
    ∙ ap (λ found. given_by clauses steps ++ cons_option (option_map (λ (c : ClauseModel). c.fact) found) []) at

-- a step that may follow a derivation makes a longer one
pub IsDerivation-push : (clauses : List ClauseModel) (steps : List ℕ) (step : ℕ) → IsDerivation clauses steps → MayFollow clauses steps step
    → IsDerivation clauses (steps ++ step ∷ [])
IsDerivation-push clauses steps step h last place other at =
    let within : place < length (steps ++ step ∷ []) = slice_get_within (steps ++ step ∷ []) place other at in
    let found : get_or (steps ++ step ∷ []) place 0 ≡ other = get_or_from_slice_get (steps ++ step ∷ []) place other 0 at in
    elim (cases_lt place (length steps)) [
      | inl earlier ↦
          let same : get_or steps place 0 ≡ other = sym (get_or_append_left steps (step ∷ []) 0 place earlier) ∙ found in
          let stands : slice_get steps place ≡ Some other = slice_get-get_or steps place 0 earlier ∙ ap Some same in
          let inside : place ≤ length steps = omega arith in
          rw (take-append-le place steps (step ∷ []) inside) (h place other stands)
      | inr late ↦
          let end : place ≡ length steps = omega (arith, length-append steps (step ∷ [])) in
          let same : step ≡ other = sym (get_or-append_seam steps step [] 0) ∙ (rw end at found) in
          rw (end, take-append_seam steps (step ∷ []), ← same) last
    ]

-- what a derivation gives is derivable
given_before : (clauses : List ClauseModel) (steps : List ℕ) → IsDerivation clauses steps → (n : ℕ) → n ≤ length steps
    → (fact : ℕ) → Contains (given_by clauses (take n steps)) fact → Derivable clauses fact
given_before clauses steps h zero within fact m = absurd (omega (arith, m.1))
given_before clauses steps h (suc n) within fact m =
    let here : n < length steps = omega arith in
    let step = h n (get_or steps n 0) (slice_get-get_or steps n 0 here) in
    let before : (premise : ℕ) → Contains (given_by clauses (take n steps)) premise → Derivable clauses premise =
    given_before clauses steps h n (omega arith) in
    elim (Contains-push_cases (given_by clauses (take n steps)) step.clause.fact fact
    (rw (take-suc steps n 0 here, given_by-push clauses (take n steps) (get_or steps n 0) step.clause step.at) at m)) [
      | inl earlier ↦ before fact earlier
      | inr same ↦ rw (← same)
          (by_clause step.clause (Contains-slice_get clauses (get_or steps n 0) step.clause step.at)
          (λ premise p. before premise (step.premises premise p)))
    ]

pub Derivable-given : (clauses : List ClauseModel) (steps : List ℕ) → IsDerivation clauses steps
    → (fact : ℕ) → Contains (given_by clauses steps) fact → Derivable clauses fact
Derivable-given clauses steps h fact m =
    given_before clauses steps h (length steps) (omega arith) fact (rw (take-length steps) m)

-- what is derivable by clauses is by others that have them all
pub Derivable-more : (clauses more : List ClauseModel) → ((clause : ClauseModel) → Contains clauses clause → Contains more clause)
    → (fact : ℕ) → Derivable clauses fact → Derivable more fact
Derivable-more clauses more among fact (by_clause clause h given) =
    by_clause clause (among clause h) (λ premise m. Derivable-more clauses more among premise (given premise m))
