use Rattle.std.proofs.Common.{false, map, take}
use Rattle.std.specs.List.{flat_map}
use Rattle.krates_build_facts.specs.FactModels.{fact_view}
use Rattle.krates_build_facts.specs.Rows.{run_for}
use Rattle.krates_build_checkers.specs.Finding.{Finds}
use Rattle.krates_build_checkers.proofs.runs.finds_run.Given as goal

-- it is none of the targets so far
abbrev pub invariant-loop-target : goal.invariant-loop-target
invariant-loop-target l = Finds false l.sought (flat_map (run_for (map fact_view l.premises) l.link l.placement) (take l.target-index l.child.targets.items))
