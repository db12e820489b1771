use Rattle.std.proofs.Common.{false, take}
use Rattle.std.specs.List.{flat_map}
use Rattle.krates_build_facts.specs.InitialRows.{initial_in, machine_count}
use Rattle.krates_build_checkers.specs.Finding.{Finds}
use Rattle.krates_build_checkers.proofs.initial.finds_initial.Given as goal

-- it is none of the crates so far
abbrev pub invariant-loop-entry : goal.invariant-loop-entry
invariant-loop-entry l = Finds false l.sought (flat_map (initial_in (machine_count l.tables)) (take l.entry-index l.tables.crates.items))
