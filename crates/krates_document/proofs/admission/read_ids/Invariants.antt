use Rattle.std.proofs.Common.{map, take}
use Rattle.std.specs.List.{AllZip}
use Rattle.krates_ids.specs.Identity.{Reads}
use Rattle.krates_document.proofs.admission.read_ids.Given as goal

-- the ids so far are read
abbrev pub invariant-loop-item : goal.invariant-loop-item
invariant-loop-item g l = AllZip Reads (map g.T.HasId.text (take l.item-index l.items)) l.kids.items
