use Rattle.std.proofs.Common.{false, take}
use Rattle.std.specs.List.{flat_map}
use Rattle.krates_build_facts.specs.FactModels.{fact_view}
use Rattle.krates_build_facts.specs.Rows.{rows_of}
use Rattle.krates_build_checkers.specs.Finding.{Finds}
use Rattle.krates_build_checkers.proofs.rows.finds_begun_by_some.Given as goal

-- it is none of the facts so far
abbrev pub invariant-loop-fact : goal.invariant-loop-fact
invariant-loop-fact l = Finds false l.sought (flat_map (λ fact. rows_of l.tables (fact_view fact)) (take l.fact-index l.facts))
