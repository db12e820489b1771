use Rattle.std.proofs.Common.{false, take}
use Rattle.std.specs.List.{flat_map}
use Rattle.krates_build_facts.specs.Rows.{needed_beside}
use Rattle.krates_build_checkers.specs.Finding.{Finds}
use Rattle.krates_build_checkers.proofs.units.finds_beside.Given as goal

-- it is none of the targets so far
abbrev pub invariant-loop-other : goal.invariant-loop-other
invariant-loop-other l = Finds false l.sought (flat_map (needed_beside l.unit l.target) (take l.other-index l.entry.targets.items))
