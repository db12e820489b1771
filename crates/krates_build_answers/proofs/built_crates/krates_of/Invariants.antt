use Rattle.std.proofs.Common.{◌≡◌, map, take}
use Rattle.krates_build_answers.specs.declared.built_crates.BuiltCrate.{BuiltCrate}
use Rattle.krates_build_answers.proofs.built_crates.krates_of.Given as goal

-- those so far
abbrev pub invariant-loop-place : goal.invariant-loop-place
invariant-loop-place l = l.krates.items ≡ map (λ (x : BuiltCrate). x.krate) (take l.place-index l.places)
