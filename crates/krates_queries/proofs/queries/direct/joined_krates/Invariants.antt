use Rattle.std.proofs.Common.{◌≡◌, ◌++◌, drop, map}
use Rattle.krates_queries.specs.Direct.{first_edge, joined_all, value_at}
use Rattle.krates_queries.proofs.queries.direct.joined_krates.Given as goal

-- the neighbours found so far, then those of the numbers left, are those of all numbers
abbrev pub invariant-loop-number : goal.invariant-loop-number
invariant-loop-number g l =
    map g.J.FromJoined.joined_view l.found.items ++ joined_all (value_at l.nodes) (first_edge l.neighbours) (drop l.number-index l.numbers)
    ≡ joined_all (value_at l.nodes) (first_edge l.neighbours) l.numbers
