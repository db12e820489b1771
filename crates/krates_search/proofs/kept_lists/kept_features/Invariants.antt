use Rattle.std.proofs.Common.{take}
use Rattle.std.specs.List.{AllZip}
use Rattle.krates_selection.specs.KeptTables.{kids_in}
use Rattle.krates_search.specs.KeptLists.{IsFeatureOf}
use Rattle.krates_search.proofs.kept_lists.kept_features.Given as goal

-- the features have the numbers so far
abbrev pub invariant-loop-number : goal.invariant-loop-number
invariant-loop-number l = AllZip (IsFeatureOf l.tables.context (kids_in l.tables)) (take l.number-index l.found) l.features.items
