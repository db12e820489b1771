use Rattle.std.proofs.Common.{take}
use Rattle.krates_derive.specs.FactRef.{HasKeys}
use Rattle.krates_rules.specs.StepViews.{facts_view}
use Rattle.krates_derive.proofs.fact_set.keys_of.Given as goal

-- the set has the facts so far
abbrev pub invariant-loop-fact : goal.invariant-loop-fact
invariant-loop-fact l = HasKeys l.keys (facts_view (take l.fact-index l.facts))
