use Rattle.std.proofs.Common.{length}
use Rattle.krates_queries.specs.Direct.{IsDependent}
use Rattle.krates_queries.specs.Kept.{ids_of}
use Rattle.krates_answers.specs.DirectLinks.{items_of}
use Rattle.krates_answers.proofs.DependentNumbers.{AreFound}
use Rattle.krates_answers.proofs.direct_links.DirectLinks.dependents.Given as goal

-- the lists are those of the crates so far
abbrev pub invariant-loop-found : goal.invariant-loop-found
invariant-loop-found g l =
    (goal.iterator-loop-found g).can_next l.found-iterator
    × AreFound (IsDependent l.krates.graph.nodes l.krates.graph.edges) (length (ids_of l.krates)) (items_of l.lists.items) l.found-iterator
