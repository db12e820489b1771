use Rattle.std.proofs.Common.{All, take}
use Rattle.krates_build_answers.specs.BuiltCrates.{IsForMachine}
use Rattle.krates_build_answers.specs.declared.built_crates.BuiltCrate.{BuiltCrate}
use Rattle.krates_build_answers.proofs.built_crates.has_machine.Given as goal

-- none so far
abbrev pub invariant-loop-place : goal.invariant-loop-place
invariant-loop-place l = All (λ (y : BuiltCrate). IsForMachine l.krate y → ⊥) (take l.place-index l.places)
