use Rattle.std.proofs.Common.{◌≡◌, take}
use Rattle.krates_document.specs.CrateTable.{lent_to}
use Rattle.krates_document.proofs.crate_table.id_copies.Given as goal

-- the ids so far have been copied
abbrev pub invariant-loop-id : goal.invariant-loop-id
invariant-loop-id l = l.kids.items ≡ lent_to (take l.id-index l.ids)
