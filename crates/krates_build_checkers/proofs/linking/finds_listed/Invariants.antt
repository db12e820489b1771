use Rattle.std.proofs.Common.{false, [], ◌∷◌, map, take}
use Rattle.krates_build_tables.specs.References.{reference_view}
use Rattle.krates_build_facts.specs.FactModels.{LinkedFeature, LinkedReference}
use Rattle.krates_build_facts.specs.Rows.{rule}
use Rattle.krates_build_checkers.specs.Finding.{Finds}
use Rattle.krates_build_checkers.proofs.linking.finds_listed.Given as goal

-- it is none of the references so far
abbrev pub invariant-loop-reference : goal.invariant-loop-reference
invariant-loop-reference l = Finds false l.sought (map (λ v. rule (LinkedFeature l.krate l.meeting l.fn.feature ∷ []) (LinkedReference l.krate l.meeting (reference_view v))) (take l.reference-index l.references))
