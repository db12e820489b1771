use Rattle.std.proofs.Common.{take}
use Rattle.std.specs.List.{AllZip}
use Rattle.krates_selection.specs.KeptTables.{kids_in}
use Rattle.krates_search.specs.KeptLists.{IsToggleCopy}
use Rattle.krates_search.proofs.kept_lists.kept_toggled.Given as goal

-- the toggled features so far have their copies
abbrev pub invariant-loop-toggle : goal.invariant-loop-toggle
invariant-loop-toggle l = AllZip (IsToggleCopy (kids_in l.tables)) (take l.toggle-index l.found) l.toggled.items
