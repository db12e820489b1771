use Rattle.std.proofs.Common.{Contains, refl}
use Rattle.krates_build_facts.specs.FactModels.{fact_view}
use Rattle.krates_build_checkers.specs.GivenFacts.{facts_of_set}
use Rattle.krates_build_checkers.proofs.GivenSets.{all_at, all_more, all_of, given_told}
use Rattle.krates_build_checkers.proofs.given.are_given.Goals as goal

pub returns-then-not-contains : goal.returns-then-not-contains
returns-then-not-contains c =
    let P = Contains (facts_of_set c.args.given.now) in
    (λ t. absurd cc, λ all. absurd (cc ((given_told c.args.given.now _ c.contains.result c.contains.ensures).1 (all_at P fact_view c.args.facts.now c.loop-fact.fact-index _ c.loop-fact-test.true all), c.if-not-contains.true)))

pub loop-fact-preserved : goal.loop-fact-preserved
loop-fact-preserved c =
    let P = Contains (facts_of_set c.args.given.now) in
    all_more P fact_view c.args.facts.now c.loop-fact.fact-index _ c.loop-fact-test.true c.loop-fact.invariant ((given_told c.args.given.now _ c.contains.result c.contains.ensures).0 c.if-not-contains.false)

pub returns : goal.returns
returns c =
    (λ t. all_of (Contains (facts_of_set c.args.given.now)) fact_view c.args.facts.now c.loop-fact.fact-index c.loop-fact-test.false c.loop-fact.invariant, λ all. refl)
