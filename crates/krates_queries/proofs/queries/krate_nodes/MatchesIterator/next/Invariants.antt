use Rattle.std.proofs.Common.{◌≡◌, filter, length, option_map}
use Rattle.krates_queries.specs.KrateNodes.{fits, is_named}
use Rattle.krates_queries.proofs.queries.krate_nodes.MatchesIterator.next.Given as goal

-- what is found among the remaining crates is still all that is to come
abbrev pub invariant-loop-found : goal.invariant-loop-found
invariant-loop-found g l =
    filter (fits g.N.KrateDetails.version_of (option_map (λ req. req.now) l.self-inside.wanted))
    (filter (is_named g.N.KrateDetails.name_of l.self-inside.name.now) l.self-inside.left) ≡ l.fn.self

abbrev pub decreases-loop-found : goal.decreases-loop-found
decreases-loop-found g l = length l.self-inside.left
