use Rattle.std.proofs.Common.{false, [], ◌∷◌, map, take}
use Rattle.krates_build_tables.specs.References.{reference_view}
use Rattle.krates_build_facts.specs.FactModels.{ActivatedFeature, ActivatedReference}
use Rattle.krates_build_facts.specs.Rows.{rule}
use Rattle.krates_build_checkers.specs.Finding.{Finds}
use Rattle.krates_build_checkers.proofs.sides.finds_listed.Given as goal

-- it is none of the references so far
abbrev pub invariant-loop-reference : goal.invariant-loop-reference
invariant-loop-reference l = Finds false l.sought (map (λ v. rule (ActivatedFeature l.krate l.side l.fn.feature ∷ []) (ActivatedReference l.krate l.side (reference_view v))) (take l.reference-index l.references))
