use Rattle.std.proofs.Common.{false, take}
use Rattle.std.specs.List.{flat_map}
use Rattle.krates_build_facts.specs.InitialRows.{asked_rows}
use Rattle.krates_build_checkers.specs.Finding.{Finds}
use Rattle.krates_build_checkers.proofs.initial.finds_some_asked.Given as goal

-- it is none of the targets so far
abbrev pub invariant-loop-target : goal.invariant-loop-target
invariant-loop-target l = Finds false l.sought (flat_map (asked_rows l.machines) (take l.target-index l.entry.targets.items))
