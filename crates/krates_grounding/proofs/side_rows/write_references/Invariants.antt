use Rattle.std.proofs.Common.{[], ◌∷◌, map, take}
use Rattle.krates_build_tables.specs.References.{reference_view}
use Rattle.krates_build_facts.specs.FactModels.{ActivatedFeature, ActivatedReference}
use Rattle.krates_grounding.specs.Grounding.{HasWritten}
use Rattle.krates_build_facts.specs.Rows.{rule}
use Rattle.krates_grounding.proofs.side_rows.write_references.Given as goal

-- the references so far are written
abbrev pub invariant-loop-reference : goal.invariant-loop-reference
invariant-loop-reference l =
    HasWritten l.initial.ground l.ground
    (map (λ v. rule (ActivatedFeature l.krate l.side l.feature ∷ []) (ActivatedReference l.krate l.side (reference_view v))) (take l.reference-index l.reference-items))
