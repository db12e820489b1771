use Rattle.std.proofs.Common.{map, take}
use Rattle.krates_cm.specs.Document.{id_view}
use Rattle.krates_build_tables.specs.RequestsFlags.{AreReadFrom}
use Rattle.krates_build_tables.proofs.selection.read_ids.Given as goal

-- the ids of the texts so far
abbrev pub invariant-loop-text : goal.invariant-loop-text
invariant-loop-text l = AreReadFrom (map id_view (take l.text-index l.texts)) l.ids.items
