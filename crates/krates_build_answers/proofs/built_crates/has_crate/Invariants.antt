use Rattle.std.proofs.Common.{◌≡◌, All, take}
use Rattle.krates_build_answers.specs.declared.built_crates.BuiltCrate.{BuiltCrate}
use Rattle.krates_build_answers.proofs.built_crates.has_crate.Given as goal

-- none so far
abbrev pub invariant-loop-place : goal.invariant-loop-place
invariant-loop-place l = All (λ (y : BuiltCrate). y.krate ≡ l.krate → ⊥) (take l.place-index l.places)
