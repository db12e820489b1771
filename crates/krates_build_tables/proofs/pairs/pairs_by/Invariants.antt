use Rattle.std.proofs.Common.{map, take}
use Rattle.krates_cm.specs.Document.{dep_kind_info_view, dependency_view}
use Rattle.krates_questions.specs.NodeEntry.{child_of, parent_of}
use Rattle.krates_build_tables.specs.Pairs.{GivesBy, pair_view}
use Rattle.krates_build_tables.proofs.Listing.{Lists}
use Rattle.krates_build_tables.proofs.pairs.pairs_by.Given as goal

-- those of the kinds and targets so far
abbrev pub invariant-loop-info : goal.invariant-loop-info
invariant-loop-info l = Lists (GivesBy (parent_of l.entry) (child_of l.entry) (dependency_view l.declared)) (map dep_kind_info_view (take l.info-index l.info-items)) (map pair_view l.pairs.items)
