use Rattle.std.proofs.Common.{false, take}
use Rattle.std.specs.List.{flat_map}
use Rattle.krates_build_facts.specs.Rows.{lost}
use Rattle.krates_build_checkers.specs.Finding.{Finds}
use Rattle.krates_build_checkers.proofs.linking.finds_lost.Given as goal

-- it is none of the dependencies so far
abbrev pub invariant-loop-dep : goal.invariant-loop-dep
invariant-loop-dep l = Finds false l.sought (flat_map (lost l.krate l.meeting) (take l.dep-index l.lacking))
