use Rattle.std.proofs.Common.{map, take}
use Rattle.krates_cm.specs.Document.{dependency_view}
use Rattle.krates_questions.specs.Lookup.{resolved_view}
use Rattle.krates_rules.specs.Resolved.{id_of}
use Rattle.krates_build_tables.specs.Pairs.{PairsFor, pair_view}
use Rattle.krates_build_tables.proofs.Listing.{Lists}
use Rattle.krates_build_tables.proofs.pairs.pairs_of.Given as goal

-- those of the declared dependencies so far
abbrev pub invariant-loop-declared : goal.invariant-loop-declared
invariant-loop-declared l = Lists (PairsFor (resolved_view l.document) (id_of l.krate)) (map dependency_view (take l.declared-index l.declared-items)) (map pair_view l.pairs.items)
