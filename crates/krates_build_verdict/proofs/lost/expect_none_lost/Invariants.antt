use Rattle.std.proofs.Common.{map, take}
use Rattle.krates_build_facts.specs.FactModels.{fact_view}
use Rattle.krates_build_verdict.specs.BuildVerdicts.{NoneLost}
use Rattle.krates_build_verdict.proofs.lost.expect_none_lost.Given as goal

-- none of the facts so far says so
abbrev pub invariant-loop-number : goal.invariant-loop-number
invariant-loop-number l = NoneLost (map fact_view (take l.number l.facts))
