use Rattle.std.proofs.Common.{◌≡◌, ◌++◌, map}
use Rattle.std.specs.List.{flat_map}
use Rattle.krates_queries.specs.KrateNodes.{crates_of, match_view}
use Rattle.krates_answers.specs.Difference.{IsDependency, dependency_view, pairs_with}
use Rattle.krates_answers.specs.Those.{AreThose}
use Rattle.krates_answers.proofs.difference.DependencyEdge.all_in.Given as goal

-- what is found are those of the pairs with the children so far
abbrev pub invariant-loop-child : goal.invariant-loop-child
invariant-loop-child l =
    goal.iterator-loop-child.can_next l.child-iterator
    × (map match_view l.yielded ++ l.child-iterator ≡ crates_of l.krates)
    × AreThose (IsDependency l.krates) (flat_map (λ child. pairs_with child (crates_of l.krates)) (map match_view l.yielded)) (map dependency_view l.edges.items)
