use Rattle.std.proofs.Common.{◌∙◌, ◌<◌, ap, arith, length}
use Rattle.std.proofs.lemmas.List.Elements.{All-weaker}
use Rattle.std.proofs.lemmas.Result.{IfOk-weaker}
use Rattle.std.specs.List.{filter_map}
use Rattle.krates_queries.specs.Direct.{value_at}
use Rattle.krates_drawing.specs.Node.{crate_ids}
use Rattle.krates_queries.proofs.NodeLemmas.{crates_within}
use Rattle.krates_queries.proofs.queries.reached.Krates+N+Edge.krates_filtered.Goals as goal

pub nodes_put-requires : goal.nodes_put-requires
nodes_put-requires g c = let numbered = c.graph-graph.ensures.connected.numbered in omega (arith, c.in_ok-agenda.ensures.size, numbered)

pub reached-requires-clause-starts : goal.reached-requires-clause-starts
reached-requires-clause-starts g c =
    All-weaker (λ n. n < length (crate_ids c.args.self.now.graph.nodes)) (λ n. n < length c.graph-graph.result.now.nodes)
    (λ n lt. rw c.graph-graph.ensures.graph (let few = crates_within c.args.self.now.graph.nodes in omega (arith, few, lt))) c.members.result.now c.members.ensures.crates.crates

pub returns : goal.returns
returns g c =
    let graph = c.graph-graph.result.now in
    let starts = c.members.result.now in
    let numbers = c.in_ok-numbers.numbers.items in
    rw (← c.graph-graph.ensures.graph, ← c.members.ensures.members)
    (IfOk-weaker c.krates_among.result _ _
    (λ krates e. record {
      numbers = numbers;
      by_number = c.in_ok-numbers.ensures.ascending;
      exactly = λ n.
          (let there = c.in_ok-numbers.ensures.same n in
          let reached = c.in_ok-agenda.ensures.put n in
          (λ h. reached.0 (there.0 h), λ h. there.1 (reached.1 h)));
      are = e ∙ ap (filter_map (value_at c.raw_nodes.result.now)) c.deref.ensures.value ∙ ap (λ nodes. filter_map (value_at nodes) numbers) c.raw_nodes.ensures.nodes;
    })
    c.krates_among.ensures)
