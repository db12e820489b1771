-- What is told of a fact by its number.
use Rattle.std.proofs.Common.{◌≡◌, ℕ, List, All, Contains, Some, None, length, subst}
use Rattle.std.proofs.lemmas.Option.{get_or_from_slice_get}
use Rattle.std.specs.BTreeMap.{BTreeMap, get}
use Rattle.krates_build_tables.specs.declared.tables.Tables.{Tables}
use Rattle.krates_closure.specs.Clauses.{ClausesModel, NamesBelow}
use Rattle.krates_closure.specs.Closure.{Derivable}
use Rattle.krates_build_facts.specs.FactModels.{FactModel, Lost, fact_view}
use Rattle.krates_build_facts.specs.Mattering.{MayMatter}
use Rattle.krates_build_facts.specs.Meanings.{Follows}
use Rattle.krates_build_facts.specs.FactOrder.{fact_cmp}
use Rattle.krates_grounding.specs.Numbers.{AreDerived, IsNumberOf, IsOnlyAt}
use Rattle.krates_build_facts.specs.declared.facts.BuildFact.{BuildFact}
use Rattle.krates_grounding.proofs.FollowingNumbers.{derived_follows, follows_derived}

module _ (t : Tables) (all : List FactModel) (numbers : BTreeMap BuildFact ℕ) (clauses : ClausesModel) (h : AreDerived t all numbers clauses) where
  pub below : All (NamesBelow (length all)) clauses.list
  below = subst (λ n. All (NamesBelow n) clauses.list) h.ground.size h.ground.below

  pub number_here : (q : BuildFact) (n : ℕ) → get fact_cmp numbers q ≡ Some n → IsOnlyAt all (fact_view q) n
  number_here q n is = subst (IsNumberOf all (fact_view q)) is (h.ground.are_numbers q)

  pub told_sound : (q : BuildFact) (n : ℕ) → get fact_cmp numbers q ≡ Some n → Derivable clauses.list n → Follows t (fact_view q)
  told_sound q n is d =
      subst (Follows t) (get_or_from_slice_get all n (fact_view q) (Lost 0 0) (number_here q n is).at) (derived_follows t all clauses.list h.grounded below n d)

  pub told_complete : (q : BuildFact) (n : ℕ) → get fact_cmp numbers q ≡ Some n → Follows t (fact_view q) → Derivable clauses.list n
  told_complete q n is f = (follows_derived t all clauses.list h.grounded below (fact_view q) f).derived n (number_here q n is).at

  -- a fact that follows and may matter has a number
  pub told_none : (q : BuildFact) → get fact_cmp numbers q ≡ None → MayMatter t (fact_view q) → Follows t (fact_view q) → ⊥
  told_none q is matters f =
      let none : Contains all (fact_view q) → ⊥ = subst (IsNumberOf all (fact_view q)) is (h.ground.are_numbers q) in
      none ((follows_derived t all clauses.list h.grounded below (fact_view q) f).numbered matters)
