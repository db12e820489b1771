use Rattle.std.proofs.Common.{take}
use Rattle.krates_resolve.specs.KeptCrates.{AreNodePlaces}
use Rattle.krates_resolve.proofs.kept_crates.places_by_number.Given as goal

-- they are those of the places so far
abbrev pub invariant-loop-index : goal.invariant-loop-index
invariant-loop-index l = AreNodePlaces l.document (take l.index-index l.places) l.kept.items
