use Rattle.std.proofs.Common.{All, Contains, map, take}
use Rattle.krates_build_facts.specs.FactModels.{fact_view}
use Rattle.krates_build_checkers.specs.GivenFacts.{facts_of_set}
use Rattle.krates_build_checkers.proofs.given.are_given.Given as goal

-- those so far are given
abbrev pub invariant-loop-fact : goal.invariant-loop-fact
invariant-loop-fact l = All (Contains (facts_of_set l.given)) (map fact_view (take l.fact-index l.facts))
