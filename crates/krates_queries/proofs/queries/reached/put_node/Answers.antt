use Rattle.std.proofs.Common.{◌≡◌, ◌<◌, ◌∙◌, length, sym, arith}
use Rattle.krates_queries.proofs.ReachedLemmas.{put_grows}
use Rattle.krates_queries.proofs.queries.reached.put_node.Goals as goal

pub returns-then-index-node_count : goal.returns-then-index-node_count
returns-then-index-node_count g c =
    let node = c.args.node in
    let count = length c.args.graph.now.nodes in
    let within : node < count = omega (arith, c.if-index-node_count.true, c.index.ensures, c.node_count.ensures.count) in
    put_grows (λ n. (n ≡ node) × (node < count)) c.put.result c.args.agenda.now c.put.new.self c.index-then-index-node_count.result
    (c.index-then-index-node_count.ensures, within) (λ n h. c.index-then-index-node_count.ensures ∙ sym h.0)
    c.put.ensures.old c.put.ensures.added c.put.ensures.unchanged
