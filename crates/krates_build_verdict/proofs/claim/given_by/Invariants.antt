use Rattle.std.proofs.Common.{map, take}
use Rattle.krates_build_facts.specs.FactModels.{fact_view}
use Rattle.krates_build_facts.specs.Steps.{step_view}
use Rattle.krates_build_verdict.specs.NamedClaims.{GivesFacts}
use Rattle.krates_build_verdict.proofs.claim.given_by.Given as goal

-- the steps of the numbers so far give the facts so far
abbrev pub invariant-loop-used : goal.invariant-loop-used
invariant-loop-used l = GivesFacts (map step_view l.before) (take l.used-index l.uses) (map fact_view l.facts.items)
