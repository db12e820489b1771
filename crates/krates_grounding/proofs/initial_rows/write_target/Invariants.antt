use Rattle.std.specs.List.{flat_map, range_with_len}
use Rattle.krates_grounding.specs.Grounding.{HasWritten}
use Rattle.krates_build_facts.specs.InitialRows.{asked_for_machine}
use Rattle.krates_grounding.proofs.initial_rows.write_target.Given as goal

-- those for the machines so far are written
abbrev pub invariant-loop-number : goal.invariant-loop-number
invariant-loop-number l = HasWritten l.initial.ground l.ground (flat_map (asked_for_machine l.target) (range_with_len 0 l.number))
