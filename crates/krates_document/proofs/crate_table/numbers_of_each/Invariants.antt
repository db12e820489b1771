use Rattle.std.proofs.Common.{map, take}
use Rattle.std.specs.Global.{Vec}
use Rattle.std.specs.List.{AllZip}
use Rattle.krates_ids.specs.Identity.{Identity}
use Rattle.krates_document.specs.CrateTable.{AreNumbersOf, numbers_in}
use Rattle.krates_rules.specs.Resolved.{id_of}
use Rattle.krates_document.proofs.crate_table.numbers_of_each.Given as goal

-- those of the lists so far have these numbers
abbrev pub invariant-loop-list : goal.invariant-loop-list
invariant-loop-list l = AllZip (AreNumbersOf (map id_of l.ids)) (map (λ (v : Vec Identity). v.items) (take l.list-index l.lists)) (numbers_in l.numbers)
