use Rattle.std.proofs.Common.{map, take}
use Rattle.krates_build_facts.specs.FactModels.{fact_view}
use Rattle.krates_grounding.specs.Grounding.{HaveNumbered}
use Rattle.krates_grounding.proofs.ground.Ground.numbers_of.Given as goal

-- the facts so far have the numbers so far
abbrev pub invariant-loop-fact : goal.invariant-loop-fact
invariant-loop-fact l = HaveNumbered l.initial.self l.self (map fact_view (take l.fact-index l.facts)) l.numbers.items
