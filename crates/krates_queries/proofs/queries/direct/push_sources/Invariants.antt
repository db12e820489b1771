use Rattle.std.proofs.Common.{◌≡◌, ◌++◌, drop, slice_get}
use Rattle.std.specs.List.{filter_map}
use Rattle.krates_queries.specs.Direct.{source_in}
use Rattle.krates_queries.proofs.queries.direct.push_sources.Given as goal

abbrev pub invariant-loop-id : goal.invariant-loop-id
invariant-loop-id g l =
    l.sources.items ++ filter_map (λ k. source_in k (slice_get l.graph.edges k)) (drop l.id-index l.id-items)
    ≡ l.fn.sources.items ++ filter_map (λ k. source_in k (slice_get l.graph.edges k)) l.id-items
