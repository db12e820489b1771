use Rattle.std.proofs.Common.{take}
use Rattle.std.specs.List.{flat_map}
use Rattle.krates_grounding.specs.Grounding.{HasWritten}
use Rattle.krates_build_facts.specs.InitialRows.{initial_in, machine_count}
use Rattle.krates_grounding.proofs.initial_rows.write_initial.Given as goal

-- those so far are written
abbrev pub invariant-loop-entry : goal.invariant-loop-entry
invariant-loop-entry l = HasWritten l.initial.ground l.ground (flat_map (initial_in (machine_count l.tables)) (take l.entry-index l.tables.crates.items))
