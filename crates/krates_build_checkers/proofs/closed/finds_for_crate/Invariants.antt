use Rattle.std.proofs.Common.{false, take}
use Rattle.std.specs.List.{flat_map}
use Rattle.krates_build_checkers.specs.Closedness.{available_to_target}
use Rattle.krates_build_checkers.specs.Finding.{Finds}
use Rattle.krates_build_checkers.proofs.closed.finds_for_crate.Given as goal

-- it is none of the targets so far
abbrev pub invariant-loop-target : goal.invariant-loop-target
invariant-loop-target l = Finds false l.sought (flat_map (available_to_target l.tables) (take l.target-index l.entry.targets.items))
