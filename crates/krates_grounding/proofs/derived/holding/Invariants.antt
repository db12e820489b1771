use Rattle.std.proofs.Common.{map}
use Rattle.krates_build_facts.specs.FactModels.{fact_view}
use Rattle.krates_grounding.specs.Grounding.{AreToldUpTo}
use Rattle.krates_grounding.proofs.derived.holding.Given as goal

-- those so far are told
abbrev pub invariant-loop-number : goal.invariant-loop-number
invariant-loop-number l = AreToldUpTo l.closure.clauses.list (map fact_view l.facts) (map fact_view l.told.items) l.number
