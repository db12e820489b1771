use Rattle.krates_build_facts.specs.FactModels.{fact_view}
use Rattle.krates_build_facts.specs.Rows.{rows_of}
use Rattle.krates_build_facts.specs.declared.facts.BuildFact.{BuildFact}
use Rattle.krates_build_checkers.proofs.FoundRows.{found_get, none_at_all, none_get}
use Rattle.krates_build_checkers.proofs.rows.finds_begun_by_some.Goals as goal

pub returns-then-finds_begun : goal.returns-then-finds_begun
returns-then-finds_begun c = found_get (λ (fact : BuildFact). rows_of c.args.tables.now (fact_view fact)) c.args.facts.now c.loop-fact.fact-index _ c.args.sought.now c.finds_begun.result c.loop-fact-test.true c.if-finds_begun.true c.finds_begun.ensures

pub loop-fact-preserved : goal.loop-fact-preserved
loop-fact-preserved c = none_get (λ (fact : BuildFact). rows_of c.args.tables.now (fact_view fact)) c.args.facts.now c.loop-fact.fact-index _ c.args.sought.now c.finds_begun.result c.loop-fact-test.true c.if-finds_begun.false c.loop-fact.invariant c.finds_begun.ensures

pub returns : goal.returns
returns c = none_at_all (λ (fact : BuildFact). rows_of c.args.tables.now (fact_view fact)) c.args.facts.now c.loop-fact.fact-index c.args.sought.now c.loop-fact-test.false c.loop-fact.invariant
