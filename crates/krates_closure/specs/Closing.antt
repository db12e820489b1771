-- What is kept while the closure of clauses is found, and how it fits together.
use Rattle.std.specs.Prelude.{◌≡◌, ℕ, ◌+◌, ◌-◌, ◌*◌, ◌<◌, ◌≤◌, List, [], Bool, All, Contains, Vec, count_by, length, map, sum_by, slice_index, slice_index_or}
use Rattle.krates_closure.specs.Clauses.{ClauseModel, NamesBelow}
use Rattle.krates_closure.specs.Closure.{IsDerivation, given_by}
use Rattle.krates_closure.specs.Marks.{HasMark, IsMetBefore, LacksMark}
use Rattle.krates_closure.specs.declared.closing.Closing.{Closing}

-- the clause with this number
abbrev pub clause_at : List ClauseModel → ℕ → ClauseModel
clause_at clauses number = slice_index_or clauses number (record { premises = []; fact = 0 })

-- the steps so far are a derivation, and the marks are those of the facts that they give
pub record IsFound (clauses : List ClauseModel) (marks : List Bool) (steps : List ℕ) : Type 0 where
  pub counted : length steps ≡ count_by (λ mark. mark) marks
  pub sound : (fact : ℕ) → HasMark marks fact → Contains (given_by clauses steps) fact
  pub complete : (fact : ℕ) → Contains (given_by clauses steps) fact → HasMark marks fact
  pub derivation : IsDerivation clauses steps

-- the clauses that wait for each fact
abbrev pub watchers_of : {Z : Type 0} → List (Vec ℕ Z) → List (List ℕ)
watchers_of lists = map (λ list. list.items) lists

-- those that wait for this fact
abbrev pub waiting_for : List (List ℕ) → ℕ → List ℕ
waiting_for watchers fact = slice_index_or watchers fact []

-- the fact of a clause has a mark, or the clause is to be looked at, or it waits for a premise that has none
pub data IsInHand (clause : ClauseModel) (marks : List Bool) (watchers : List (List ℕ)) (pending : List ℕ) (number : ℕ) : Type 0 where
  done : HasMark marks clause.fact → IsInHand clause marks watchers pending number
  to_look_at : Contains pending number → IsInHand clause marks watchers pending number
  waits_for : (premise : ℕ) → Contains clause.premises premise → LacksMark marks premise
      → Contains (waiting_for watchers premise) number → IsInHand clause marks watchers pending number

-- how what is kept fits together
pub record FitsTogether (clauses : List ClauseModel) (marks : List Bool) (steps seen : List ℕ) (watchers : List (List ℕ)) (pending : List ℕ) : Type 0 where
  pub below : All (NamesBelow (length marks)) clauses
  pub found : IsFound clauses marks steps
  pub seen_sized : length seen ≡ length clauses
  pub watchers_sized : length watchers ≡ length marks
  -- the premises that were seen have marks
  pub seen_marked : (number : ℕ) → number < length clauses → IsMetBefore marks (clause_at clauses number).premises (slice_index seen number)
  pub pending_below : (number : ℕ) → Contains pending number → number < length clauses
  pub watchers_below : (fact number : ℕ) → Contains (waiting_for watchers fact) number → number < length clauses
  -- each clause is kept once
  pub counted : length pending + sum_by (λ list. length list) watchers ≤ length clauses
  pub in_hand : (number : ℕ) → number < length clauses → IsInHand (clause_at clauses number) marks watchers pending number

-- the same of what is kept, where these clauses are to be looked at
abbrev pub IsClosing : List ClauseModel → Closing → List ℕ → Type 0
IsClosing clauses closing pending =
    FitsTogether clauses closing.found.marks.items closing.found.steps.items closing.seen.items (watchers_of closing.watchers.items) pending

-- at most so many turns are left, where a clause may be looked at again only after a new fact
abbrev pub turns_left : List ClauseModel → Closing → List ℕ → ℕ
turns_left clauses closing pending = (length closing.found.marks.items - length closing.found.steps.items) * (length clauses + 1) + length pending
