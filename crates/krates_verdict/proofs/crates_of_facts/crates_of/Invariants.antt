use Rattle.std.proofs.Common.{take}
use Rattle.krates_rules.specs.StepViews.{facts_view}
use Rattle.krates_verdict.specs.CratesOfFacts.{HasCrates}
use Rattle.krates_verdict.proofs.crates_of_facts.crates_of.Given as goal

-- the set has the crates of the facts so far
abbrev pub invariant-loop-fact : goal.invariant-loop-fact
invariant-loop-fact l = HasCrates l.krates (facts_view (take l.fact-index l.facts))
