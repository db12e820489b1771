-- Which facts the derivation of one needs.
use Rattle.std.specs.Prelude.{◌≡◌, ◌⊎◌, ℕ, ◌≤◌, List, Bool, false, Some, Contains, slice_get, slice_index_or}
use Rattle.krates_closure.specs.Clauses.{ClauseModel}
use Rattle.krates_closure.specs.Closing.{clause_at}
use Rattle.krates_closure.specs.Marks.{HasMark, IsMet}

-- the clause of a step gives a fact that has a mark
abbrev pub is_marked : List ClauseModel → List Bool → ℕ → Bool
is_marked clauses marks step = slice_index_or marks (clause_at clauses step).fact false

-- the step gives a fact that has a mark, and needs this one
abbrev pub IsNeededAt : List ClauseModel → ℕ → List Bool → ℕ → Type 0
IsNeededAt clauses step marks fact = HasMark marks (clause_at clauses step).fact × Contains (clause_at clauses step).premises fact

-- the fact is a premise of the clause of a step, whose fact has a mark
pub record IsNeededBy (clauses : List ClauseModel) (steps : List ℕ) (marks : List Bool) (fact : ℕ) : Type 0 where
  pub step : ℕ
  pub among : Contains steps step
  pub clause : ClauseModel
  pub at : slice_get clauses step ≡ Some clause
  pub marked : HasMark marks clause.fact
  pub premise : Contains clause.premises fact

-- The fact has a mark; where a step from this place on gives what has one, so have all its premises; and nothing else has.
pub record AreNeeded (clauses : List ClauseModel) (steps : List ℕ) (fact from : ℕ) (marks : List Bool) : Type 0 where
  pub itself : HasMark marks fact
  pub closed : (place step : ℕ) (clause : ClauseModel) → from ≤ place → slice_get steps place ≡ Some step → slice_get clauses step ≡ Some clause
      → HasMark marks clause.fact → IsMet marks clause.premises
  pub needed : (other : ℕ) → HasMark marks other → (other ≡ fact) ⊎ IsNeededBy clauses steps marks other
