use Rattle.std.proofs.Common.{◌∙◌, map, List, refl, subst, sym}
use Rattle.std.proofs.lemmas.List.{take_all}
use Rattle.krates_build_facts.specs.declared.facts.BuildFact.{BuildFact}
use Rattle.krates_build_facts.specs.FactModels.{fact_view}
use Rattle.krates_build_verdict.specs.BuildVerdicts.{NoneLost}
use Rattle.krates_build_verdict.proofs.BuiltCrates.{lost_at, none_at_first}
use Rattle.krates_build_verdict.proofs.lost.expect_none_lost.Goals as goal

pub loop-number-init : goal.loop-number-init
loop-number-init c = none_at_first

pub returns-then-is_lost-clause-refused : goal.returns-then-is_lost-clause-refused
returns-then-is_lost-clause-refused c =
    (c.loop-number.number, refl, lost_at c.args.facts.now c.loop-number.number _ c.loop-number-test.true (sym c.is_lost.ensures ∙ c.if-is_lost.true) c.loop-number.invariant)

pub returns-clause-whole : goal.returns-clause-whole
returns-clause-whole c = subst (λ (xs : List BuildFact). NoneLost (map fact_view xs)) (take_all c.loop-number.number c.args.facts.now c.loop-number-test.false) c.loop-number.invariant
