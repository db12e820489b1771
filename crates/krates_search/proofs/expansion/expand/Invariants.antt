use Rattle.std.proofs.Common.{map}
use Rattle.krates_cm.specs.Document.{node_dep_view}
use Rattle.krates_rules.specs.Resolved.{id_of}
use Rattle.krates_search.proofs.TriedParts.{TriedBelow}
use Rattle.krates_search.specs.SearchState.{Advances}
use Rattle.krates_search.proofs.expansion.expand.Given as goal

-- the edges of the dependencies so far have been tried
abbrev pub invariant-loop-index : goal.invariant-loop-index
invariant-loop-index l =
    Advances l.context l.fn.found l.found
    × TriedBelow l.context l.found (id_of l.parts.parent.now) (map node_dep_view l.parts.deps.now) l.parts.children.now l.index
