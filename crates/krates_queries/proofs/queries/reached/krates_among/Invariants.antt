use Rattle.std.proofs.Common.{◌≡◌, ◌++◌, drop, map}
use Rattle.std.specs.List.{filter_map}
use Rattle.krates_queries.specs.Direct.{value_at}
use Rattle.krates_queries.proofs.queries.reached.krates_among.Given as goal

abbrev pub invariant-loop-number : goal.invariant-loop-number
invariant-loop-number g l = map (λ krate. krate.now) l.krates.items ++ filter_map (value_at l.nodes) (drop l.number-index l.numbers) ≡ filter_map (value_at l.nodes) l.numbers
