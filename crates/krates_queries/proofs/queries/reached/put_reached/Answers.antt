use Rattle.std.proofs.Common.{◌≡◌, ◌∙◌, ◌<◌, Some, length, slice_get, sym, ap, arith}
use Rattle.std.proofs.lemmas.List.Elements.{All-contains}
use Rattle.krates_graph.specs.Agenda.{PutNumbers}
use Rattle.krates_queries.proofs.DirectLemmas.{contains_got}
use Rattle.krates_queries.proofs.ReachedLemmas.{exactly_put, followed_first, followed_more, past}
use Rattle.krates_queries.proofs.queries.reached.put_reached.Goals as goal

pub loop-taken-init : goal.loop-taken-init
loop-taken-init g c =
    followed_first (g.F.EdgeFilter.admits c.args.filter.now) (length c.args.graph.now.nodes) c.args.graph.now.edges c.args.direction c.args.agenda.now c.requires.size c.requires.none_taken

pub overflow_cast-number : goal.overflow_cast-number
overflow_cast-number g c =
    let at : slice_get c.loop-taken.agenda.put c.loop-taken.agenda.taken ≡ Some c.in-Some.taken = sym c.in-Some.ensures.first in
    let put : c.take.new.self.put ≡ c.loop-taken.agenda.put = ap (λ (a : PutNumbers). a.put) c.in-Some.ensures.counted in
    let size : c.take.new.self.size ≡ c.loop-taken.agenda.size = ap (λ (a : PutNumbers). a.size) c.in-Some.ensures.counted in
    let below : c.in-Some.taken < c.take.new.self.size =
    All-contains (λ n. n < c.take.new.self.size) c.take.new.self.put c.in-Some.taken c.take.ensures.orderly.below
    (rw put (contains_got c.loop-taken.agenda.put c.loop-taken.agenda.taken c.in-Some.taken at)) in
    omega (arith, below, size, c.loop-taken.invariant.size, c.number.ensures, c.requires.numbered)

pub loop-taken-preserved : goal.loop-taken-preserved
loop-taken-preserved g c =
    followed_more (g.F.EdgeFilter.admits c.args.filter.now) (length c.args.graph.now.nodes) c.args.graph.now.edges c.args.direction c.args.agenda.now.put c.loop-taken.agenda c.take.new.self c.put_ends.new.agenda c.in-Some.taken
    c.loop-taken.invariant (sym c.in-Some.ensures.first) c.in-Some.ensures.counted
    (rw (c.raw_edges.ensures.edges, c.edge_numbers-ids.ensures, c.new-node.ensures, c.number.ensures) at c.put_ends.ensures)

pub returns-clause-put : goal.returns-clause-put
returns-clause-put g c =
    let same : c.take.new.self.put ≡ c.loop-taken.agenda.put = ap (λ (a : PutNumbers). a.put) c.in_default.ensures.counted in
    rw same
    (exactly_put (g.F.EdgeFilter.admits c.args.filter.now) (length c.args.graph.now.nodes) c.args.graph.now.edges c.args.direction c.args.agenda.now.put c.loop-taken.agenda c.loop-taken.invariant
    (past c.loop-taken.agenda.put c.loop-taken.agenda.taken (sym c.in_default.ensures.first)))

pub returns-clause-size : goal.returns-clause-size
returns-clause-size g c = ap (λ (a : PutNumbers). a.size) c.in_default.ensures.counted ∙ c.loop-taken.invariant.size
