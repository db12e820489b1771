use Rattle.std.proofs.Common.{◌≡◌, ◌++◌, drop, map}
use Rattle.std.specs.List.{filter_map}
use Rattle.krates_queries.specs.KrateNodes.{match_at, match_view}
use Rattle.krates_queries.proofs.queries.reached.crates_among.Given as goal

abbrev pub invariant-loop-number : goal.invariant-loop-number
invariant-loop-number g l = map match_view l.found.items ++ filter_map (match_at l.nodes) (drop l.number-index l.numbers) ≡ filter_map (match_at l.nodes) l.numbers
