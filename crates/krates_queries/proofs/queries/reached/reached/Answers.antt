use Rattle.std.proofs.Common.{◌∙◌, Contains, ap}
use Rattle.krates_graph.specs.Agenda.{PutNumbers}
use Rattle.krates_queries.proofs.ReachedLemmas.{reached_without, put_first}
use Rattle.krates_queries.proofs.queries.reached.reached.Goals as goal

pub put_reached-requires-clause-none_taken : goal.put_reached-requires-clause-none_taken
put_reached-requires-clause-none_taken g c = c.put_all.ensures.taken ∙ ap (λ (a : PutNumbers). a.taken) c.in_ok-agenda.ensures

pub put_reached-requires-clause-size : goal.put_reached-requires-clause-size
put_reached-requires-clause-size g c = c.put_all.ensures.size ∙ ap (λ (a : PutNumbers). a.size) c.in_ok-agenda.ensures ∙ c.node_count.ensures.count

pub returns-clause-put : goal.returns-clause-put
returns-clause-put g c n =
    let starts = c.args.starts.now in
    let before = c.put_all.new.agenda in
    let first = put_first (Contains starts) c.node_count.result c.in_ok-agenda.agenda before c.in_ok-agenda.ensures c.put_all.ensures in
    let found = c.put_reached.ensures.put n in
    let paths = reached_without c.args.kind c.args.graph.now.edges (Contains before.put) starts first n in
    (λ h. paths.0 (found.0 h), λ h. found.1 (paths.1 h))
