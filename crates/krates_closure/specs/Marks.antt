-- Marks of facts, each at the number of its fact.
use Rattle.std.specs.Prelude.{◌≡◌, ◌↔◌, ℕ, ◌<◌, List, Bool, false, true, Contains, length, slice_index, slice_index_or}
use Rattle.krates_closure.specs.Clauses.{ClauseModel}
use Rattle.krates_closure.specs.Closure.{Derivable}

abbrev pub HasMark : List Bool → ℕ → Type 0
HasMark marks fact = slice_index_or marks fact false ≡ true

abbrev pub LacksMark : List Bool → ℕ → Type 0
LacksMark marks fact = slice_index_or marks fact false ≡ false

-- exactly the derivable facts have one
abbrev pub AreMarks : List ClauseModel → List Bool → Type 0
AreMarks clauses marks = (fact : ℕ) → HasMark marks fact ↔ Derivable clauses fact

-- all premises have one
abbrev pub IsMet : List Bool → List ℕ → Type 0
IsMet marks premises = (premise : ℕ) → Contains premises premise → HasMark marks premise

-- the premises before the place have one
abbrev pub IsMetBefore : List Bool → List ℕ → ℕ → Type 0
IsMetBefore marks premises place = (earlier : ℕ) → earlier < place → earlier < length premises → HasMark marks (slice_index premises earlier)

-- the premise at the place has none, and each before it has one
pub record IsFirstWithout (marks : List Bool) (premises : List ℕ) (place : ℕ) : Type 0 where
  pub within : place < length premises
  pub unmarked : LacksMark marks (slice_index premises place)
  pub before : IsMetBefore marks premises place
