use Rattle.std.proofs.Common.{◌≡◌, map, take}
use Rattle.krates_build_facts.specs.FactModels.{fact_view}
use Rattle.krates_grounding.specs.Grounding.{fact_at}
use Rattle.krates_grounding.proofs.steps.facts_at.Given as goal

-- those so far
abbrev pub invariant-loop-number : goal.invariant-loop-number
invariant-loop-number l = map fact_view l.named.items ≡ map (fact_at (map fact_view l.facts)) (take l.number-index l.numbers)
