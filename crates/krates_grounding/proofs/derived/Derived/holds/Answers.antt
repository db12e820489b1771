use Rattle.std.proofs.Common.{◌≡◌, ℕ, Some, None, sym, subst, rules}
use Rattle.std.specs.BTreeMap.{get}
use Rattle.krates_build_tables.specs.declared.tables.Tables.{Tables}
use Rattle.krates_closure.specs.Closure.{Derivable}
use Rattle.krates_build_facts.specs.FactModels.{fact_view}
use Rattle.krates_build_facts.specs.Mattering.{MayMatter}
use Rattle.krates_build_facts.specs.Meanings.{Follows}
use Rattle.krates_build_facts.specs.FactOrder.{fact_cmp}
use Rattle.krates_grounding.proofs.DerivedFacts.{told_complete, told_none, told_sound}
use Rattle.krates_grounding.proofs.derived.Derived.holds.Goals as goal

pub returns-in-Some-clause-sound : goal.returns-in-Some-clause-sound
returns-in-Some-clause-sound c told =
    let own = c.self.inside in
    let q = c.args.fact.now in
    let is : get fact_cmp own.numbers q ≡ Some c.in-Some.number.now = search rules in
    let d = subst (λ (n : ℕ). Derivable own.closure.clauses.list n) c.new.ensures (c.holds.ensures.0 told) in
    subst (λ (t : Tables). Follows t (fact_view q)) c.self.view_is (told_sound own.tables _ own.numbers own.closure.clauses c.self.invariant q c.in-Some.number.now is d)

pub returns-in-Some-clause-complete : goal.returns-in-Some-clause-complete
returns-in-Some-clause-complete c matters follows =
    let own = c.self.inside in
    let q = c.args.fact.now in
    let is : get fact_cmp own.numbers q ≡ Some c.in-Some.number.now = search rules in
    let there = subst (λ (t : Tables). Follows t (fact_view q)) (sym c.self.view_is) follows in
    c.holds.ensures.1 (subst (λ (n : ℕ). Derivable own.closure.clauses.list n) (sym c.new.ensures) (told_complete own.tables _ own.numbers own.closure.clauses c.self.invariant q c.in-Some.number.now is there))

pub returns-in-None-clause-complete : goal.returns-in-None-clause-complete
returns-in-None-clause-complete c matters follows =
    let own = c.self.inside in
    let q = c.args.fact.now in
    let is : get fact_cmp own.numbers q ≡ None = search rules in
    let there = subst (λ (t : Tables). Follows t (fact_view q)) (sym c.self.view_is) follows in
    absurd (told_none own.tables _ own.numbers own.closure.clauses c.self.invariant q is (subst (λ (t : Tables). MayMatter t (fact_view q)) (sym c.self.view_is) matters) there)
