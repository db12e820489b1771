use Rattle.std.proofs.Common.{[], ◌∷◌, map, take}
use Rattle.krates_build_tables.specs.References.{reference_view}
use Rattle.krates_build_facts.specs.FactModels.{LinkedFeature, LinkedReference}
use Rattle.krates_grounding.specs.Grounding.{HasWritten}
use Rattle.krates_build_facts.specs.Rows.{rule}
use Rattle.krates_grounding.proofs.linking_rows.write_references.Given as goal

-- the references so far are written
abbrev pub invariant-loop-reference : goal.invariant-loop-reference
invariant-loop-reference l =
    HasWritten l.initial.ground l.ground
    (map (λ v. rule (LinkedFeature l.krate l.meeting l.feature ∷ []) (LinkedReference l.krate l.meeting (reference_view v))) (take l.reference-index l.reference-items))
