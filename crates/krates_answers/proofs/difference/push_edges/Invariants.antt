use Rattle.std.proofs.Common.{◌≡◌, ◌++◌, map, take}
use Rattle.krates_queries.specs.KrateNodes.{match_view}
use Rattle.krates_answers.specs.Difference.{dependency_view, pairs_to}
use Rattle.krates_answers.proofs.difference.push_edges.Given as goal

-- those of the dependents so far are added
abbrev pub invariant-loop-dependent : goal.invariant-loop-dependent
invariant-loop-dependent l = map dependency_view l.edges.items ≡ map dependency_view l.fn.edges.items ++ pairs_to l.krates (match_view l.child) (take l.dependent-index l.dependents)
