use Rattle.std.proofs.Common.{All, take}
use Rattle.krates_build_facts.specs.declared.facts.UnitPlace.{UnitPlace}
use Rattle.krates_build_answers.specs.BuiltTwice.{IsUnitOn}
use Rattle.krates_build_answers.proofs.twice.has_unit.Given as goal

-- none so far
abbrev pub invariant-loop-unit : goal.invariant-loop-unit
invariant-loop-unit l = All (λ (x : UnitPlace). IsUnitOn l.krate l.side x → ⊥) (take l.unit-index l.units)
