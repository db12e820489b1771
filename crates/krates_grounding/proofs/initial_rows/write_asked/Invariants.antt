use Rattle.std.proofs.Common.{take}
use Rattle.std.specs.List.{flat_map}
use Rattle.krates_grounding.specs.Grounding.{HasWritten}
use Rattle.krates_build_facts.specs.InitialRows.{asked_rows}
use Rattle.krates_grounding.proofs.initial_rows.write_asked.Given as goal

-- those so far are written
abbrev pub invariant-loop-target : goal.invariant-loop-target
invariant-loop-target l = HasWritten l.initial.ground l.ground (flat_map (asked_rows l.machines) (take l.target-index l.entry.targets.items))
