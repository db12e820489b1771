use Rattle.std.proofs.Common.{◌≡◌, All, map, take}
use Rattle.krates_build_answers.specs.Uses.{IsUse}
use Rattle.krates_build_answers.specs.declared.uses.UsedCrate.{UsedCrate}
use Rattle.krates_build_answers.proofs.uses.uses_of.Given as goal

-- those of the crates so far
abbrev pub invariant-loop-krate : goal.invariant-loop-krate
invariant-loop-krate l = record {
  krates : map (λ (u : UsedCrate). u.krate) l.uses.items ≡ take l.krate-index l.krates;
  uses : All (λ (u : UsedCrate). IsUse l.as_asked u.krate u.usage) l.uses.items;
}
