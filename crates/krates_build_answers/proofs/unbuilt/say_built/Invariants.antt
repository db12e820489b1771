use Rattle.std.proofs.Common.{All, take}
use Rattle.krates_build_facts.specs.FactModels.{fact_view}
use Rattle.krates_build_facts.specs.declared.facts.BuildFact.{BuildFact}
use Rattle.krates_build_answers.specs.Unbuilt.{SaysBuilt}
use Rattle.krates_build_answers.proofs.unbuilt.say_built.Given as goal

-- none so far says so
abbrev pub invariant-loop-fact : goal.invariant-loop-fact
invariant-loop-fact l = All (λ (f : BuildFact). SaysBuilt l.krate (fact_view f) → ⊥) (take l.fact-index l.facts)
