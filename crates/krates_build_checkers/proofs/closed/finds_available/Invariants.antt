use Rattle.std.proofs.Common.{false, take}
use Rattle.std.specs.List.{flat_map}
use Rattle.krates_build_checkers.specs.Closedness.{available_to_crate}
use Rattle.krates_build_checkers.specs.Finding.{Finds}
use Rattle.krates_build_checkers.proofs.closed.finds_available.Given as goal

-- it is none of the crates so far
abbrev pub invariant-loop-entry : goal.invariant-loop-entry
invariant-loop-entry l = Finds false l.sought (flat_map (available_to_crate l.tables) (take l.entry-index l.tables.crates.items))
