use Rattle.std.proofs.Common.{map, take}
use Rattle.krates_queries.specs.KrateNodes.{match_view}
use Rattle.krates_answers.specs.Changed.{HoldsVersions}
use Rattle.krates_answers.proofs.changed.versions_of.Given as goal

-- the versions of the crates so far
abbrev pub invariant-loop-found : goal.invariant-loop-found
invariant-loop-found l = HoldsVersions (map match_view (take l.found-index l.krates)) l.versions
