use Rattle.std.proofs.Common.{take}
use Rattle.std.specs.List.{AllZip}
use Rattle.krates_selection.specs.KeptTables.{kids_in}
use Rattle.krates_search.specs.KeptLists.{IsCopyOf}
use Rattle.krates_search.proofs.kept_lists.kept_edges.Given as goal

-- the edges so far have their copies
abbrev pub invariant-loop-edge : goal.invariant-loop-edge
invariant-loop-edge l = AllZip (IsCopyOf (kids_in l.tables)) (take l.edge-index l.found) l.copies.items
