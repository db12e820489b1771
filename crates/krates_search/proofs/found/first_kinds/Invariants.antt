use Rattle.std.proofs.Common.{map}
use Rattle.krates_cm.specs.Document.{dep_kind_info_view}
use Rattle.krates_search.proofs.FirstKinds.{AreFirstBelow, AreSeen}
use Rattle.krates_search.proofs.found.first_kinds.Given as goal

-- the set has the kinds and targets so far, and the list their first places
abbrev pub invariant-loop-place : goal.invariant-loop-place
invariant-loop-place l = AreSeen (map dep_kind_info_view l.infos) l.place l.seen × AreFirstBelow (map dep_kind_info_view l.infos) l.place l.places.items
