use Rattle.std.proofs.Common.{map, take}
use Rattle.krates_build_facts.specs.FactModels.{fact_view}
use Rattle.krates_build_checkers.specs.GivenFacts.{HasFacts}
use Rattle.krates_build_checkers.proofs.given.set_of.Given as goal

-- the set has the facts so far
abbrev pub invariant-loop-fact : goal.invariant-loop-fact
invariant-loop-fact l = HasFacts l.given (map fact_view (take l.fact-index l.facts))
