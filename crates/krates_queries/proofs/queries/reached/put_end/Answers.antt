use Rattle.std.proofs.Common.{◌≡◌, ◌∙◌, Some, None, slice_get, sym}
use Rattle.std.proofs.lemmas.List.Elements.{All-contains}
use Rattle.std.proofs.lemmas.Option.{none-some}
use Rattle.krates_graph.specs.Graph.{HasEnds}
use Rattle.krates_queries.specs.Reached.{IsFarEnd}
use Rattle.krates_queries.proofs.DirectLemmas.{contains_got}
use Rattle.krates_queries.proofs.ReachedLemmas.{end_here, end_passes, far_within, grows_none, put_grows}
use Rattle.krates_queries.proofs.queries.reached.put_end.Goals as goal

pub put-requires : goal.put-requires
put-requires g c =
    let edges = c.args.edges.now in
    let at : slice_get edges c.args.id ≡ Some c.in-Some.edge.now = sym c.in-Some.ensures in
    let ends = All-contains (HasEnds c.args.agenda.now.size) edges c.in-Some.edge.now c.requires (contains_got edges c.args.id c.in-Some.edge.now at) in
    rw (c.index.ensures, c.other_end.ensures) (far_within c.args.agenda.now.size c.in-Some.edge.now c.args.direction ends)

pub returns-then-passes : goal.returns-then-passes
returns-then-passes g c =
    let edges = c.args.edges.now in
    let passes = g.F.EdgeFilter.admits c.args.filter.now in
    let at : slice_get edges c.args.id ≡ Some c.in-Some.edge.now = sym c.in-Some.ensures in
    put_grows (IsFarEnd passes edges c.args.direction c.args.id) c.put.result c.args.agenda.now c.put.new.self c.index.result
    (record { edge = c.in-Some.edge.now; at = at; passes = c.passes.ensures.0 c.if-passes.true; far = sym (c.index.ensures ∙ c.other_end.ensures) })
    (λ n w. c.index.ensures ∙ c.other_end.ensures ∙ end_here passes edges c.args.direction c.args.id n c.in-Some.edge.now at w)
    c.put.ensures.old c.put.ensures.added c.put.ensures.unchanged

pub returns-else-passes : goal.returns-else-passes
returns-else-passes g c =
    let edges = c.args.edges.now in
    let passes = g.F.EdgeFilter.admits c.args.filter.now in
    let at : slice_get edges c.args.id ≡ Some c.in-Some.edge.now = sym c.in-Some.ensures in
    grows_none (IsFarEnd passes edges c.args.direction c.args.id) c.args.agenda.now
    (λ n w. (let does = c.passes.ensures.1 (end_passes passes edges c.args.direction c.args.id n c.in-Some.edge.now at w) in absurd (cc (does, c.if-passes.false))))

pub returns-in_default : goal.returns-in_default
returns-in_default g c =
    let edges = c.args.edges.now in
    grows_none (IsFarEnd (g.F.EdgeFilter.admits c.args.filter.now) edges c.args.direction c.args.id) c.args.agenda.now
    (λ n w. (let none : slice_get edges c.args.id ≡ None = cc (c.in_default.ensures, c.in_default.is) in none-some w.edge (sym none ∙ w.at)))
