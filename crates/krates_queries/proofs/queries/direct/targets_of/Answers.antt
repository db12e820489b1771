use Rattle.std.proofs.Common.{◌∙◌, ℕ, ap, slice_get}
use Rattle.std.specs.List.{filter_map}
use Rattle.krates_queries.specs.Direct.{target_in}
use Rattle.krates_queries.proofs.FoundLemmas.{all_found, one_more}
use Rattle.krates_queries.proofs.queries.direct.targets_of.Goals as goal

pub loop-id-preserved : goal.loop-id-preserved
loop-id-preserved g c =
    let graph = c.args.graph.now in
    let ids = c.edge_numbers-id-items.result.now in
    let target = λ (k : ℕ). target_in graph.nodes k (slice_get graph.edges k) in
    one_more target ids c.loop-id.id-index c.id-item.result c.loop-id.targets.items c.push_target.new.targets.items (filter_map target ids)
    c.loop-id-test.true c.id-item.is c.loop-id.invariant c.in_ok-push_target.ensures

pub returns : goal.returns
returns g c =
    let graph = c.args.graph.now in
    let ids = c.edge_numbers-id-items.result.now in
    let target = λ (k : ℕ). target_in graph.nodes k (slice_get graph.edges k) in
    all_found target ids c.loop-id.id-index c.loop-id.targets.items (filter_map target ids) c.loop-id-test.false c.loop-id.invariant
    ∙ ap (filter_map target) c.edge_numbers-id-items.ensures
