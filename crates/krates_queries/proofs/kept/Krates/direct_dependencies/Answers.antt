use Rattle.std.proofs.Common.{◌≡◌, ◌↔◌, ◌∙◌, List, ℕ, Contains, slice_get, refl, sym, ap, subst}
use Rattle.std.proofs.lemmas.Result.{IfOk-weaker}
use Rattle.krates_queries.specs.Direct.{AreInOrder, Joined, joined_all, AreDependencies, named_by, targets_from, first_edge, value_at}
use Rattle.krates_drawing.specs.declared.node.Node.{Node}
use Rattle.krates_queries.specs.declared.queries.direct.Neighbour.{Neighbour}
use Rattle.krates_queries.proofs.DirectLemmas.{are_dependencies}
use Rattle.krates_queries.proofs.kept.Krates.direct_dependencies.Goals as goal

pub joined_krates-requires : goal.joined_krates-requires
joined_krates-requires g c = λ _. ((refl, tt), subst AreInOrder (sym c.deref.ensures.value) c.ordered-targets.ensures.ordered)

pub returns : goal.returns
returns g c =
    let graph = c.graph-graph.result.now in
    let targets = c.ordered-targets.result.items in
    let numbers = c.sorted_once-numbers.result.items in
    let named : c.in_ok-named.field-0.items ≡ named_by (slice_get graph.nodes c.args.node) = c.in_ok-named.ensures ∙ ap named_by (sym c.index.ensures) in
    let led : c.in_ok-targets_of.field-0.items ≡ targets_from graph.nodes graph.edges c.args.node = c.in_ok-targets_of.ensures in
    let are = are_dependencies graph.nodes graph.edges c.args.node targets numbers c.graph-graph.ensures.connected c.ordered-targets.ensures.ordered
    (λ x. subst (λ (xs : List Neighbour). Contains targets x ↔ Contains xs x) led (c.ordered-targets.ensures.same x)) c.sorted_once-numbers.ensures.ascending
    (λ n. subst (λ (ns : List ℕ). Contains numbers n ↔ Contains ns n) named (c.sorted_once-numbers.ensures.same n)) in
    let seen = ap (λ (ns : List (Node g.row.N.Denot)). joined_all (value_at ns) (first_edge c.deref.result.now) c.deref-2.result.now) c.raw_nodes.ensures.nodes
    ∙ ap (λ (xs : List Neighbour). joined_all (value_at graph.nodes) (first_edge xs) c.deref-2.result.now) c.deref.ensures.value
    ∙ ap (joined_all (value_at graph.nodes) (first_edge targets)) c.deref-2.ensures.value in
    rw (← c.graph-graph.ensures.graph)
    (IfOk-weaker c.joined_krates.result _ _
    (λ found e. subst (λ (js : List (Joined g.row.N.Denot)). AreDependencies graph.nodes graph.edges c.args.node js) (sym (e ∙ seen)) are)
    c.joined_krates.ensures)
