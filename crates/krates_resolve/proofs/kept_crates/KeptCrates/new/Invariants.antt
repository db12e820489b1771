use Rattle.std.proofs.Common.{take}
use Rattle.krates_resolve.proofs.KeptCrates.{AreRanked}
use Rattle.krates_resolve.proofs.kept_crates.KeptCrates.new.Given as goal

-- the ids and the ranks are those of the places so far
abbrev pub invariant-loop-place : goal.invariant-loop-place
invariant-loop-place l = AreRanked l.ids (take l.place-index l.place-items) l.krates.items l.numbers.items
