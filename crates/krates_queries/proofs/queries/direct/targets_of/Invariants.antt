use Rattle.std.proofs.Common.{◌≡◌, ◌++◌, drop, slice_get}
use Rattle.std.specs.List.{filter_map}
use Rattle.krates_queries.specs.Direct.{target_in}
use Rattle.krates_queries.proofs.queries.direct.targets_of.Given as goal

abbrev pub invariant-loop-id : goal.invariant-loop-id
invariant-loop-id g l =
    l.targets.items ++ filter_map (λ k. target_in l.graph.nodes k (slice_get l.graph.edges k)) (drop l.id-index l.id-items)
    ≡ filter_map (λ k. target_in l.graph.nodes k (slice_get l.graph.edges k)) l.id-items
