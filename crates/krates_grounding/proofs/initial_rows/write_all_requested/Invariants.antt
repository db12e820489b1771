use Rattle.std.proofs.Common.{take}
use Rattle.std.specs.List.{flat_map}
use Rattle.krates_build_tables.specs.References.{reference_view}
use Rattle.krates_grounding.specs.Grounding.{HasWritten}
use Rattle.krates_build_facts.specs.InitialRows.{requested}
use Rattle.krates_grounding.proofs.initial_rows.write_all_requested.Given as goal

-- those of the references so far are written
abbrev pub invariant-loop-reference : goal.invariant-loop-reference
invariant-loop-reference l = HasWritten l.initial.ground l.ground (flat_map (λ v. requested l.entry (reference_view v)) (take l.reference-index l.entry.requested.items))
