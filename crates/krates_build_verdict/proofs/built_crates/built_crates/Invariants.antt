use Rattle.std.proofs.Common.{map, take}
use Rattle.krates_build_facts.specs.FactModels.{fact_view}
use Rattle.krates_build_verdict.specs.BuildVerdicts.{HasBuilt}
use Rattle.krates_build_verdict.proofs.built_crates.built_crates.Given as goal

-- the set has the crates of the facts so far
abbrev pub invariant-loop-fact : goal.invariant-loop-fact
invariant-loop-fact l = HasBuilt l.krates (map fact_view (take l.fact-index l.facts))
