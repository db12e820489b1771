use Rattle.std.proofs.Common.{take}
use Rattle.krates_derive.specs.FactRef.{HasPairs}
use Rattle.krates_rules.specs.StepViews.{facts_view}
use Rattle.krates_derive.proofs.fact_set.pairs_of.Given as goal

-- the set has the crates of the edges so far
abbrev pub invariant-loop-fact : goal.invariant-loop-fact
invariant-loop-fact l = HasPairs l.pairs (facts_view (take l.fact-index l.facts))
