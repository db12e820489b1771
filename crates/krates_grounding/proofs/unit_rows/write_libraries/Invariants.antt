use Rattle.std.proofs.Common.{map, take}
use Rattle.std.specs.List.{flat_map}
use Rattle.krates_build_facts.specs.FactModels.{fact_view}
use Rattle.krates_grounding.specs.Grounding.{HasWritten}
use Rattle.krates_build_facts.specs.Rows.{library}
use Rattle.krates_grounding.proofs.unit_rows.write_libraries.Given as goal

-- those of the targets so far are written
abbrev pub invariant-loop-target : goal.invariant-loop-target
invariant-loop-target l = HasWritten l.initial.ground l.ground (flat_map (library (map fact_view l.premises) l.link l.placement) (take l.target-index l.target-items))
