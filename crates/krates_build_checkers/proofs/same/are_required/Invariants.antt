use Rattle.std.proofs.Common.{◌≡◌, map, take}
use Rattle.krates_build_facts.specs.FactModels.{Available, fact_view}
use Rattle.krates_build_checkers.proofs.same.are_required.Given as goal

-- they are the same so far
abbrev pub invariant-loop-number : goal.invariant-loop-number
invariant-loop-number l = map (λ text. Available l.krate text.now) (take l.number l.texts) ≡ map fact_view (take l.number l.facts)
