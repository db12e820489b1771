use Rattle.std.proofs.Common.{◌≡◌, refl, ◌↔◌, ◌∙◌, List, ℕ, Contains, map, sym, ap, subst}
use Rattle.std.proofs.lemmas.Result.{IfOk-weaker}
use Rattle.krates_queries.specs.Direct.{AreInOrder, Joined, joined_all, AreDependents, sources_into, first_edge, value_at}
use Rattle.krates_drawing.specs.declared.node.Node.{Node}
use Rattle.krates_queries.specs.declared.queries.direct.Neighbour.{Neighbour}
use Rattle.krates_queries.proofs.DirectLemmas.{are_dependents}
use Rattle.krates_queries.proofs.kept.Krates.direct_dependents.Goals as goal

pub joined_krates-requires : goal.joined_krates-requires
joined_krates-requires g c = λ _. ((refl, tt), subst AreInOrder (sym c.deref-2.ensures.value) c.ordered-sources.ensures.ordered)

pub returns : goal.returns
returns g c =
    let graph = c.graph-graph.result.now in
    let sources = c.ordered-sources.result.items in
    let numbers = c.sorted_once-numbers.result.items in
    let led : c.in_ok-sources_of.field-0.items ≡ sources_into graph.nodes graph.edges c.args.node = c.in_ok-sources_of.ensures in
    let of : c.in_ok-neighbour_numbers.field-0.items ≡ map (λ (n : Neighbour). n.krate) sources = c.in_ok-neighbour_numbers.ensures ∙ ap (map (λ (n : Neighbour). n.krate)) c.deref.ensures.value in
    let are = are_dependents graph.nodes graph.edges c.args.node sources numbers c.graph-graph.ensures.connected c.ordered-sources.ensures.ordered
    (λ x. subst (λ (xs : List Neighbour). Contains sources x ↔ Contains xs x) led (c.ordered-sources.ensures.same x)) c.sorted_once-numbers.ensures.ascending
    (λ n. subst (λ (ns : List ℕ). Contains numbers n ↔ Contains ns n) of (c.sorted_once-numbers.ensures.same n)) in
    let seen = ap (λ (ns : List (Node g.row.N.Denot)). joined_all (value_at ns) (first_edge c.deref-2.result.now) c.deref-3.result.now) c.raw_nodes.ensures.nodes
    ∙ ap (λ (xs : List Neighbour). joined_all (value_at graph.nodes) (first_edge xs) c.deref-3.result.now) c.deref-2.ensures.value
    ∙ ap (joined_all (value_at graph.nodes) (first_edge sources)) c.deref-3.ensures.value in
    rw (← c.graph-graph.ensures.graph)
    (IfOk-weaker c.joined_krates.result _ _
    (λ found e. subst (λ (js : List (Joined g.row.N.Denot)). AreDependents graph.nodes graph.edges c.args.node js) (sym (e ∙ seen)) are)
    c.joined_krates.ensures)
