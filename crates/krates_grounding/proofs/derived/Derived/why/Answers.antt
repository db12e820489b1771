use Rattle.std.proofs.Common.{◌≡◌, ℕ, All, Some, None, length, map, sym, ap, ◌∙◌, subst, rules}
use Rattle.std.proofs.lemmas.List.{length-map}
use Rattle.std.specs.BTreeMap.{get}
use Rattle.krates_build_tables.specs.declared.tables.Tables.{Tables}
use Rattle.krates_closure.specs.Clauses.{NamesBelow}
use Rattle.krates_closure.specs.Closure.{Derivable, IsDerivationOf}
use Rattle.krates_closure.proofs.NeededLemmas.{step_within}
use Rattle.krates_build_facts.specs.FactModels.{fact_view}
use Rattle.krates_build_facts.specs.Mattering.{MayMatter}
use Rattle.krates_build_facts.specs.Meanings.{Follows}
use Rattle.krates_build_facts.specs.FactOrder.{fact_cmp}
use Rattle.krates_build_facts.specs.Steps.{AreStepsTo, step_view}
use Rattle.krates_grounding.proofs.DerivedFacts.{below, number_here, told_complete, told_none}
use Rattle.krates_grounding.proofs.StepLemmas.{rows_derive}
use Rattle.krates_grounding.proofs.derived.Derived.why.Goals as goal

pub returns-in_default-clause-none : goal.returns-in_default-clause-none
returns-in_default-clause-none c matters follows =
    let own = c.self.inside in
    let q = c.args.fact.now in
    let is : get fact_cmp own.numbers q ≡ None = search rules in
    let there = subst (λ (t : Tables). Follows t (fact_view q)) (sym c.self.view_is) follows in
    told_none own.tables _ own.numbers own.closure.clauses c.self.invariant q is (subst (λ (t : Tables). MayMatter t (fact_view q)) (sym c.self.view_is) matters) there

pub returns-in_default-2-clause-none : goal.returns-in_default-2-clause-none
returns-in_default-2-clause-none c matters follows =
    let own = c.self.inside in
    let q = c.args.fact.now in
    let is : get fact_cmp own.numbers q ≡ Some c.in-Some.number.now = search rules in
    let there = subst (λ (t : Tables). Follows t (fact_view q)) (sym c.self.view_is) follows in
    let derivable = subst (λ (n : ℕ). Derivable own.closure.clauses.list n) (sym c.new.ensures) (told_complete own.tables _ own.numbers own.closure.clauses c.self.invariant q c.in-Some.number.now is there) in
    let none : c.in_ok-numbers.field-0 ≡ None = search rules in
    (rw none at c.in_ok-numbers.ensures.none) derivable

pub steps_of-requires-clause-below : goal.steps_of-requires-clause-below
steps_of-requires-clause-below c =
    let own = c.self.inside in
    let size : c.clauses.result.now.size ≡ length c.deref.result.now =
    ap (λ clauses. clauses.size) c.clauses.ensures ∙ c.self.invariant.ground.size ∙ length-map own.facts.items fact_view ∙ sym (ap length c.deref.ensures.value) in
    subst (λ (n : ℕ). All (NamesBelow n) c.as_slice-clauses.result.now) size c.as_slice-clauses.ensures.below

pub steps_of-requires-clause-within : goal.steps_of-requires-clause-within
steps_of-requires-clause-within c number m =
    let own = c.self.inside in
    let numbers = c.in-Some-2.numbers.items in
    let derives : IsDerivationOf own.closure.clauses.list numbers c.new.result = rw c.in-Some-2.is at c.in_ok-numbers.ensures.found in
    rw (c.as_slice-clauses.ensures.clauses, c.clauses.ensures) (step_within own.closure.clauses.list numbers number derives.derivation (rw c.deref-2.ensures.value at m))

pub returns-clause-steps : goal.returns-clause-steps
returns-clause-steps c =
    let own = c.self.inside in
    let q = c.args.fact.now in
    let numbers = c.in-Some-2.numbers.items in
    let facts = map fact_view own.facts.items in
    let derives : IsDerivationOf own.closure.clauses.list numbers c.new.result = rw c.in-Some-2.is at c.in_ok-numbers.ensures.found in
    let is : get fact_cmp own.numbers q ≡ Some c.in-Some.number.now = search rules in
    let at = number_here own.tables facts own.numbers own.closure.clauses c.self.invariant q c.in-Some.number.now is in
    let told = rw (c.deref.ensures.value, c.as_slice-clauses.ensures.clauses, c.clauses.ensures, c.deref-2.ensures.value) at c.in_ok-steps.ensures in
    subst (λ (t : Tables). AreStepsTo t (map step_view c.in_ok-steps.steps.items) (fact_view q)) c.self.view_is
    (rw told (rows_derive own.tables facts own.closure.clauses.list c.self.invariant.grounded
    (below own.tables facts own.numbers own.closure.clauses c.self.invariant) numbers c.in-Some.number.now (fact_view q)
    (subst (λ (n : ℕ). IsDerivationOf own.closure.clauses.list numbers n) c.new.ensures derives) at.at))
