use Rattle.std.proofs.Common.{◌≡◌, map, take}
use Rattle.krates_text.specs.AskedTargets.{asked_of}
use Rattle.krates_words.proofs.choice.copies_of.Given as goal

abbrev pub invariant-loop-target : goal.invariant-loop-target
invariant-loop-target l = map asked_of l.copies.items ≡ map asked_of (take l.target-index l.targets)
