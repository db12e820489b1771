use Rattle.std.proofs.Common.{take}
use Rattle.std.specs.List.{flat_map}
use Rattle.krates_grounding.specs.Grounding.{HasWritten}
use Rattle.krates_build_facts.specs.Rows.{needed_beside}
use Rattle.krates_grounding.proofs.unit_rows.write_beside.Given as goal

-- those of the targets so far are written
abbrev pub invariant-loop-other : goal.invariant-loop-other
invariant-loop-other l = HasWritten l.initial.ground l.ground (flat_map (needed_beside l.unit l.target) (take l.other-index l.entry.targets.items))
