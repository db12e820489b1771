-- The numbers that a map has of facts.
use Rattle.std.specs.Prelude.{◌≡◌, ℕ, List, [], All, Contains, MatchOption, Option, Some, length, map, slice_get}
use Rattle.std.specs.BTreeMap.{BTreeMap, get}
use denote.Ref.{NamedLft}
use mir.Syntax.{named}
use Rattle.krates_build_tables.specs.declared.tables.Tables.{Tables}
use Rattle.krates_closure.specs.Clauses.{ClausesModel, NamesBelow}
use Rattle.krates_build_facts.specs.FactModels.{FactModel, fact_view}
use Rattle.krates_build_facts.specs.FactOrder.{fact_cmp}
use Rattle.krates_grounding.specs.Grounding.{IsGrounded, rule_of}
use Rattle.krates_build_facts.specs.declared.facts.BuildFact.{BuildFact}

-- the fact has this number alone
pub record IsOnlyAt (all : List FactModel) (f : FactModel) (number : ℕ) : Type 0 where
  pub at : slice_get all number ≡ Some f
  pub only : (other : ℕ) → slice_get all other ≡ Some f → other ≡ number

-- the number is that of the fact, or there is none of a fact that isn't there
abbrev pub IsNumberOf : List FactModel → FactModel → Option ℕ → Type 0
IsNumberOf all f answer = MatchOption answer (Contains all f → ⊥) (IsOnlyAt all f)

-- the map has the number of each of these facts, and no other
abbrev pub AreNumbersOf : List FactModel → BTreeMap BuildFact ℕ → Type 0
AreNumbersOf all numbers = (q : BuildFact) → IsNumberOf all (fact_view q) (get fact_cmp numbers q)

-- the map has the numbers of these facts, and the clauses name no others
pub record IsGround (all : List FactModel) (numbers : BTreeMap BuildFact ℕ) (clauses : ClausesModel) : Type 0 where
  pub are_numbers : AreNumbersOf all numbers
  pub size : clauses.size ≡ length all
  pub below : All (NamesBelow clauses.size) clauses.list

-- they are all that matter of the tables
pub record AreDerived (t : Tables) (all : List FactModel) (numbers : BTreeMap BuildFact ℕ) (clauses : ClausesModel) : Type 0 where
  pub ground : IsGround all numbers clauses
  pub grounded : IsGrounded t (record { facts = all; rules = map (rule_of all) clauses.list })

-- a lifetime, which a code doesn't go by
abbrev pub at_any : NamedLft
at_any = record { mir = named 0; lft = [] }
