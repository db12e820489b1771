use Rattle.std.proofs.Common.{false}
use Rattle.std.specs.List.{flat_map, range_with_len}
use Rattle.krates_build_facts.specs.InitialRows.{asked_for_machine}
use Rattle.krates_build_checkers.specs.Finding.{Finds}
use Rattle.krates_build_checkers.proofs.initial.finds_asked.Given as goal

-- it is none of the machines so far
abbrev pub invariant-loop-number : goal.invariant-loop-number
invariant-loop-number l = Finds false l.sought (flat_map (asked_for_machine l.target) (range_with_len 0 l.number))
