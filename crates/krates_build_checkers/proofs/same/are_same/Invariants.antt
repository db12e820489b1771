use Rattle.std.proofs.Common.{◌≡◌, map, take}
use Rattle.krates_build_facts.specs.FactModels.{fact_view}
use Rattle.krates_build_checkers.proofs.same.are_same.Given as goal

-- they are the same so far
abbrev pub invariant-loop-number : goal.invariant-loop-number
invariant-loop-number l = map fact_view (take l.number l.facts) ≡ map fact_view (take l.number l.others)
