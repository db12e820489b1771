use Rattle.std.proofs.Common.{◌≡◌, ◌++◌, take}
use Rattle.krates_document.specs.CrateTable.{lent_to}
use Rattle.krates_document.proofs.crate_table.lend_all.Given as goal

-- the ids so far have been added
abbrev pub invariant-loop-id : goal.invariant-loop-id
invariant-loop-id l = lent_to l.all.items ≡ lent_to l.fn.all.items ++ take l.id-index l.ids
