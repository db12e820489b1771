-- What follows from clauses.
use Rattle.std.specs.Prelude.{◌≡◌, ◌⊎◌, ◌↔◌, ℕ, List, Contains, Some, option_map, slice_get, take}
use Rattle.std.specs.List.{filter_map}
use Rattle.krates_closure.specs.Clauses.{ClauseModel, ClausesModel}

-- a fact is derivable if it is that of a clause whose premises all are
pub data Derivable (clauses : List ClauseModel) : ℕ → Type 0 where
  by_clause : (clause : ClauseModel) → Contains clauses clause
      → ((premise : ℕ) → Contains clause.premises premise → Derivable clauses premise)
      → Derivable clauses clause.fact

-- the facts that steps give: those of the clauses with their numbers
abbrev pub given_by : List ClauseModel → List ℕ → List ℕ
given_by clauses steps = filter_map (λ step. option_map (λ clause. clause.fact) (slice_get clauses step)) steps

-- a step may follow others: it is the number of a clause whose premises they all give, and whose fact they don't
pub record MayFollow (clauses : List ClauseModel) (steps : List ℕ) (step : ℕ) : Type 0 where
  pub clause : ClauseModel
  pub at : slice_get clauses step ≡ Some clause
  pub premises : (premise : ℕ) → Contains clause.premises premise → Contains (given_by clauses steps) premise
  pub fresh : ¬ Contains (given_by clauses steps) clause.fact

-- steps are a derivation if each may follow those before it
abbrev pub IsDerivation : List ClauseModel → List ℕ → Type 0
IsDerivation clauses steps = (place step : ℕ) → slice_get steps place ≡ Some step → MayFollow clauses (take place steps) step

-- the steps are a derivation, and give exactly the derivable facts
pub record IsClosure (clauses : List ClauseModel) (steps : List ℕ) : Type 0 where
  pub derivation : IsDerivation clauses steps
  pub exactly : (fact : ℕ) → Contains (given_by clauses steps) fact ↔ Derivable clauses fact

-- the fact is a premise of the clause of a step
pub record IsPremiseIn (clauses : List ClauseModel) (steps : List ℕ) (fact : ℕ) : Type 0 where
  pub step : ℕ
  pub among : Contains steps step
  pub clause : ClauseModel
  pub at : slice_get clauses step ≡ Some clause
  pub premise : Contains clause.premises fact

-- the steps are a derivation that gives the fact, and nothing else but what one of them needs
pub record IsDerivationOf (clauses : List ClauseModel) (steps : List ℕ) (fact : ℕ) : Type 0 where
  pub derivation : IsDerivation clauses steps
  pub gives : Contains (given_by clauses steps) fact
  pub needed : (other : ℕ) → Contains (given_by clauses steps) other → (other ≡ fact) ⊎ IsPremiseIn clauses steps other

-- clauses, and the steps that derive what follows from them
pub record ClosureModel : Type 0 where
  pub clauses : ClausesModel
  pub steps : List ℕ
