use Rattle.std.proofs.Common.{false, take}
use Rattle.std.specs.List.{flat_map}
use Rattle.krates_build_facts.specs.FactModels.{Available}
use Rattle.krates_build_facts.specs.Rows.{rows_of}
use Rattle.krates_build_checkers.specs.Finding.{Finds}
use Rattle.krates_build_checkers.proofs.closed.finds_text.Given as goal

-- it is none of the texts so far
abbrev pub invariant-loop-text : goal.invariant-loop-text
invariant-loop-text l = Finds false l.sought (flat_map (λ text. rows_of l.tables (Available l.krate text.now)) (take l.text-index l.texts))
