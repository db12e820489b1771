use Rattle.std.proofs.Common.{false, take}
use Rattle.std.specs.List.{flat_map}
use Rattle.krates_build_tables.specs.References.{reference_view}
use Rattle.krates_build_facts.specs.InitialRows.{requested}
use Rattle.krates_build_checkers.specs.Finding.{Finds}
use Rattle.krates_build_checkers.proofs.initial.finds_some_requested.Given as goal

-- it is none of the references so far
abbrev pub invariant-loop-reference : goal.invariant-loop-reference
invariant-loop-reference l = Finds false l.sought (flat_map (λ v. requested l.entry (reference_view v)) (take l.reference-index l.references))
