use Rattle.std.proofs.Common.{map, ap}
use Rattle.std.proofs.lemmas.List.{map_more, take_all}
use Rattle.krates_build_facts.specs.FactModels.{fact_view}
use Rattle.krates_grounding.proofs.WrittenRules.{none_numbered, one_numbered}
use Rattle.krates_grounding.proofs.ground.Ground.numbers_of.Goals as goal

pub loop-fact-init : goal.loop-fact-init
loop-fact-init c = none_numbered _ _ c.in_ok-numbers.ensures.items

pub loop-fact-preserved : goal.loop-fact-preserved
loop-fact-preserved c = one_numbered _ _ _ _ _ _ _ _ _ (map_more fact_view c.args.facts.now c.loop-fact.fact-index _ c.loop-fact-test.true) c.in_ok-push.ensures.items c.loop-fact.invariant c.in_ok-number_of.ensures

pub returns : goal.returns
returns c = rw (ap (map fact_view) (take_all c.loop-fact.fact-index c.args.facts.now c.loop-fact-test.false)) at c.loop-fact.invariant
