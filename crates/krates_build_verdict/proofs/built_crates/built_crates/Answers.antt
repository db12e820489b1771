use Rattle.std.proofs.Common.{map, List, subst, sym}
use Rattle.std.proofs.lemmas.List.{map_more, take_all}
use Rattle.krates_build_facts.specs.declared.facts.BuildFact.{BuildFact}
use Rattle.krates_build_facts.specs.FactModels.{fact_view}
use Rattle.krates_build_verdict.specs.BuildVerdicts.{HasBuilt}
use Rattle.krates_build_verdict.proofs.BuiltCrates.{none_built}
use Rattle.krates_build_verdict.proofs.built_crates.built_crates.Goals as goal

pub loop-fact-init : goal.loop-fact-init
loop-fact-init c = none_built c.new-krates.result c.new-krates.ensures.empty

pub loop-fact-preserved : goal.loop-fact-preserved
loop-fact-preserved c = subst (HasBuilt c.put_built.new.krates) (sym (map_more fact_view c.args.facts.now c.loop-fact.fact-index _ c.loop-fact-test.true)) (c.in_ok-put_built.ensures _ c.loop-fact.invariant)

pub returns : goal.returns
returns c = subst (λ (xs : List BuildFact). HasBuilt c.loop-fact.krates (map fact_view xs)) (take_all c.loop-fact.fact-index c.args.facts.now c.loop-fact-test.false) c.loop-fact.invariant
