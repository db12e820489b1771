use Rattle.std.proofs.Common.{false, take}
use Rattle.std.specs.List.{flat_map}
use Rattle.krates_build_tables.specs.References.{reference_view}
use Rattle.krates_build_facts.specs.Rows.{linked_implied}
use Rattle.krates_build_checkers.specs.Finding.{Finds}
use Rattle.krates_build_checkers.proofs.linking.finds_implied.Given as goal

-- it is none of the names so far
abbrev pub invariant-loop-name : goal.invariant-loop-name
invariant-loop-name l = Finds false l.sought (flat_map (λ name. linked_implied l.krate l.meeting (reference_view l.reference) name.now) (take l.name-index l.names))
