use Rattle.std.proofs.Common.{◌≡◌, map, take}
use Rattle.krates_closure.specs.Closing.{clause_at}
use Rattle.krates_build_facts.specs.FactModels.{fact_view}
use Rattle.krates_grounding.specs.Grounding.{rule_of}
use Rattle.krates_build_facts.specs.Steps.{step_view}
use Rattle.krates_grounding.proofs.steps.steps_of.Given as goal

-- those so far
abbrev pub invariant-loop-number : goal.invariant-loop-number
invariant-loop-number l = map step_view l.steps.items ≡ map (λ number. rule_of (map fact_view l.facts) (clause_at l.clauses number)) (take l.number-index l.numbers)
