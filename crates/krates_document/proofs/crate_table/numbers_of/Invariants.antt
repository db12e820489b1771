use Rattle.std.proofs.Common.{map, take}
use Rattle.std.specs.List.{AllZip}
use Rattle.krates_document.specs.CrateTable.{IsNumberOf}
use Rattle.krates_rules.specs.Resolved.{id_of}
use Rattle.krates_document.proofs.crate_table.numbers_of.Given as goal

-- those so far have these numbers
abbrev pub invariant-loop-id : goal.invariant-loop-id
invariant-loop-id l = AllZip (IsNumberOf (map id_of l.ids)) (map id_of (take l.id-index l.list)) l.numbers.items
