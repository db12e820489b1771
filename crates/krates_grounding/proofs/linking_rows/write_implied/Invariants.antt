use Rattle.std.proofs.Common.{take}
use Rattle.std.specs.List.{flat_map}
use Rattle.krates_build_tables.specs.References.{reference_view}
use Rattle.krates_grounding.specs.Grounding.{HasWritten}
use Rattle.krates_build_facts.specs.Rows.{linked_implied}
use Rattle.krates_grounding.proofs.linking_rows.write_implied.Given as goal

-- those of the names so far are written
abbrev pub invariant-loop-name : goal.invariant-loop-name
invariant-loop-name l = HasWritten l.initial.ground l.ground (flat_map (λ name. linked_implied l.krate l.meeting (reference_view l.reference) name.now) (take l.name-index l.names))
