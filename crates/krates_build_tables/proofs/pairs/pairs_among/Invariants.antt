use Rattle.std.proofs.Common.{map}
use Rattle.krates_cm.specs.Document.{dependency_view}
use Rattle.krates_questions.specs.Lookup.{resolved_view}
use Rattle.krates_build_tables.specs.Pairs.{pair_view}
use Rattle.krates_build_tables.proofs.Listing.{ListsBelow}
use Rattle.krates_build_tables.proofs.PairLemmas.{GivesAt}
use Rattle.krates_build_tables.proofs.pairs.pairs_among.Given as goal

-- those of the dependencies so far
abbrev pub invariant-loop-index : goal.invariant-loop-index
invariant-loop-index l = ListsBelow (GivesAt (resolved_view l.document) l.parts (dependency_view l.declared)) l.index (map pair_view l.pairs.items)
