use Rattle.std.proofs.Common.{◌∙◌, sym}
use Rattle.krates_build_facts.specs.FactModels.{fact_view}
use Rattle.krates_build_verdict.proofs.BuiltCrates.{one_more, one_other}
use Rattle.krates_build_verdict.proofs.built_crates.put_built.Goals as goal

pub returns-in_ok-insert-in-Some : goal.returns-in_ok-insert-in-Some
returns-in_ok-insert-in-Some c = λ facts h. one_more c.args.krates.now c.insert.new.self facts (fact_view c.args.fact.now) c.in-Some.number c.in_ok-insert-in-Some.ensures.updates.0 (sym c.built_by.ensures ∙ c.in-Some.is) h

pub returns-in-None : goal.returns-in-None
returns-in-None c = λ facts h. one_other c.args.krates.now facts (fact_view c.args.fact.now) (sym c.built_by.ensures ∙ c.in-None.is) h
