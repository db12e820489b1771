use Rattle.std.proofs.Common.{All, Contains, map, take}
use Rattle.krates_build_facts.specs.FactModels.{Available}
use Rattle.krates_build_checkers.specs.GivenFacts.{facts_of_set}
use Rattle.krates_build_checkers.proofs.given.are_available.Given as goal

-- those so far are given
abbrev pub invariant-loop-text : goal.invariant-loop-text
invariant-loop-text l = All (Contains (facts_of_set l.given)) (map (λ text. Available l.krate text.now) (take l.text-index l.texts))
