use Rattle.std.proofs.Common.{map, ap}
use Rattle.std.proofs.lemmas.List.{map_more, take_all}
use Rattle.krates_build_facts.specs.FactModels.{fact_view}
use Rattle.krates_built.proofs.FoundLists.{lists_more}
use Rattle.krates_built.proofs.lists.lists_of.Goals as goal

pub loop-fact-preserved : goal.loop-fact-preserved
loop-fact-preserved c = lists_more _ _ _ _ _ (map_more fact_view c.args.facts.now c.loop-fact.fact-index _ c.loop-fact-test.true) c.loop-fact.invariant c.in_ok-add.ensures

pub returns : goal.returns
returns c = rw (ap (map fact_view) (take_all c.loop-fact.fact-index c.args.facts.now c.loop-fact-test.false)) at c.loop-fact.invariant
