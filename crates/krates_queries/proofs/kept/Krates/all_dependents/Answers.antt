use Rattle.std.proofs.Common.{◌∙◌, ◌↔◌, ℕ, List, Contains, sym, ap, subst}
use Rattle.std.proofs.lemmas.Result.{IfOk-weaker}
use Rattle.std.specs.List.{filter_map}
use Rattle.krates_queries.specs.KrateNodes.{Match, match_at}
use Rattle.krates_queries.specs.Reached.{AreAllDependents, HasPath}
use Rattle.krates_drawing.specs.declared.node.Node.{Node}
use Rattle.krates_queries.proofs.ReachedLemmas.{are_all_dependents}
use Rattle.krates_queries.proofs.kept.Krates.all_dependents.Goals as goal

pub returns : goal.returns
returns g c =
    let graph = c.graph-graph.result.now in
    let numbers = c.in_ok-numbers.numbers.items in
    let exactly : (n : ℕ) → Contains numbers n ↔ HasPath graph.nodes graph.edges n c.args.node = λ n.
    (let there = c.in_ok-numbers.ensures.same n in
    let found = c.in_ok-agenda.ensures.put n in
    (λ h. found.0 (there.0 h), λ h. there.1 (found.1 h))) in
    let are = are_all_dependents graph.nodes graph.edges c.args.node numbers c.in_ok-numbers.ensures.ascending exactly in
    let seen = ap (filter_map (match_at c.raw_nodes.result.now)) c.deref.ensures.value ∙ ap (λ (ns : List (Node g.row.N.Denot)). filter_map (match_at ns) numbers) c.raw_nodes.ensures.nodes in
    rw (← c.graph-graph.ensures.graph)
    (IfOk-weaker c.crates_among.result _ _
    (λ found e. subst (λ (cs : List (Match g.row.N.Denot)). AreAllDependents graph.nodes graph.edges c.args.node cs) (sym (e ∙ seen)) are)
    c.crates_among.ensures)
