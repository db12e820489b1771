use Rattle.std.proofs.Common.{refl}
use Rattle.krates_build_facts.specs.FactModels.{fact_view}
use Rattle.krates_build_facts.specs.declared.facts.BuildFact.{BuildFact}
use Rattle.krates_build_answers.specs.Unbuilt.{SaysBuilt}
use Rattle.krates_build_answers.proofs.SomeElements.{any_seen, any_unseen, none_more, none_there, some_here}
use Rattle.krates_build_answers.proofs.unbuilt.say_built.Goals as goal

pub returns-then-says_built : goal.returns-then-says_built
returns-then-says_built c =
    let P = λ (f : BuildFact). SaysBuilt c.args.krate (fact_view f) in
    (λ t. any_seen fact_view (SaysBuilt c.args.krate) c.args.facts.now (some_here P c.args.facts.now c.loop-fact.fact-index _ c.loop-fact-test.true (c.says_built.ensures.0 c.if-says_built.true)), λ a. refl)

pub returns : goal.returns
returns c =
    let P = λ (f : BuildFact). SaysBuilt c.args.krate (fact_view f) in
    (λ t. absurd cc, λ a. absurd (none_there P c.args.facts.now c.loop-fact.fact-index c.loop-fact-test.false c.loop-fact.invariant (any_unseen fact_view (SaysBuilt c.args.krate) c.args.facts.now a)))

pub loop-fact-preserved : goal.loop-fact-preserved
loop-fact-preserved c =
    let P = λ (f : BuildFact). SaysBuilt c.args.krate (fact_view f) in
    none_more P c.args.facts.now c.loop-fact.fact-index _ c.says_built.result c.loop-fact-test.true c.loop-fact.invariant c.says_built.ensures c.if-says_built.false
