use Rattle.std.proofs.Common.{◌≡◌, ◌<◌, ◌∙◌, length, Contains, ap, subst}
use Rattle.std.proofs.lemmas.List.Elements.{All-contains}
use Rattle.krates_graph.specs.Agenda.{PutNumbers}
use Rattle.krates_queries.proofs.ReachedLemmas.{paths_back, put_first}
use Rattle.krates_queries.proofs.queries.reached.leading_to.Goals as goal

pub put_reached-requires-clause-none_taken : goal.put_reached-requires-clause-none_taken
put_reached-requires-clause-none_taken g c = c.put_node.ensures.taken ∙ ap (λ (a : PutNumbers). a.taken) c.in_ok-agenda.ensures

pub put_reached-requires-clause-size : goal.put_reached-requires-clause-size
put_reached-requires-clause-size g c = c.put_node.ensures.size ∙ ap (λ (a : PutNumbers). a.size) c.in_ok-agenda.ensures ∙ c.node_count.ensures.count

pub returns-clause-put : goal.returns-clause-put
returns-clause-put g c n =
    let nodes = c.args.graph.now.nodes in
    let before = c.put_node.new.agenda in
    let after = c.put_reached.new.agenda in
    let d = c.args.node in
    let first = put_first (λ k. (k ≡ d) × (d < length nodes)) c.node_count.result c.in_ok-agenda.agenda before c.in_ok-agenda.ensures c.put_node.ensures in
    let found = c.put_reached.ensures.put n in
    let within : Contains after.put n → n < length nodes = λ h. subst (λ k. n < k) c.put_reached.ensures.size (All-contains (λ k. k < after.size) after.put n c.put_reached.ensures.orderly.below h) in
    let paths = paths_back nodes c.args.graph.now.edges (Contains before.put) d first n (λ r. within (found.1 r)) in
    (λ h. paths.0 (found.0 h), λ h. found.1 (paths.1 h))
