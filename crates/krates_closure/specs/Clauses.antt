-- Clauses over numbered facts.
use Rattle.std.specs.Prelude.{ℕ, ◌<◌, List, All}

-- a clause: where all its premises hold, its fact holds
pub record ClauseModel : Type 0 where
  pub premises : List ℕ
  pub fact : ℕ

-- the clauses, in the order of their numbers, and the size below which the numbers of their facts are
pub record ClausesModel : Type 0 where
  pub size : ℕ
  pub list : List ClauseModel

-- a clause names no facts but those below the size
pub record NamesBelow (size : ℕ) (clause : ClauseModel) : Type 0 where
  pub premises : All (λ premise. premise < size) clause.premises
  pub fact : clause.fact < size
