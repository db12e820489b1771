use Rattle.std.proofs.Common.{map, List, subst, sym}
use Rattle.std.proofs.lemmas.List.{map_more, take_all}
use Rattle.krates_build_facts.specs.declared.facts.BuildFact.{BuildFact}
use Rattle.krates_build_facts.specs.FactModels.{fact_view}
use Rattle.krates_build_checkers.specs.GivenFacts.{HasFacts}
use Rattle.krates_build_checkers.proofs.given.set_of.Goals as goal

pub loop-fact-preserved : goal.loop-fact-preserved
loop-fact-preserved c = subst (HasFacts c.add.new.given) (sym (map_more fact_view c.args.facts.now c.loop-fact.fact-index _ c.loop-fact-test.true)) (c.in_ok-add.ensures _ c.loop-fact.invariant)

pub returns : goal.returns
returns c = subst (λ (xs : List BuildFact). HasFacts c.loop-fact.given (map fact_view xs)) (take_all c.loop-fact.fact-index c.args.facts.now c.loop-fact-test.false) c.loop-fact.invariant
