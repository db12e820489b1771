use Rattle.std.proofs.Common.{take}
use Rattle.std.specs.List.{flat_map}
use Rattle.krates_grounding.specs.Grounding.{HasWritten}
use Rattle.krates_build_facts.specs.Rows.{lost}
use Rattle.krates_grounding.proofs.linking_rows.write_lost.Given as goal

-- those of the dependencies so far are written
abbrev pub invariant-loop-dep : goal.invariant-loop-dep
invariant-loop-dep l = HasWritten l.initial.ground l.ground (flat_map (lost l.krate l.meeting) (take l.dep-index l.lacking))
