use Rattle.std.proofs.Common.{All, subst, sym}
use Rattle.std.proofs.Math.Seq.{take_all}
use Rattle.krates_graph.specs.Graph.{HasEnds}
use Rattle.krates_queries.specs.Reached.{Grows, IsFarEndOf}
use Rattle.krates_queries.proofs.ReachedLemmas.{ends_more}
use Rattle.krates_queries.proofs.queries.reached.put_ends.Goals as goal

pub put_end-requires : goal.put_end-requires
put_end-requires g c = subst (λ size. All (HasEnds size) c.args.edges.now) (sym c.loop-id.invariant.size) c.requires

pub loop-id-preserved : goal.loop-id-preserved
loop-id-preserved g c =
    ends_more (g.F.EdgeFilter.admits c.args.filter.now) c.args.edges.now c.args.direction c.args.ids.now c.loop-id.id-index c.id-item.result c.args.agenda.now c.loop-id.agenda c.put_end.new.agenda
    c.loop-id-test.true c.id-item.is c.loop-id.invariant c.put_end.ensures

pub returns : goal.returns
returns g c =
    subst (λ ids. Grows (IsFarEndOf (g.F.EdgeFilter.admits c.args.filter.now) c.args.edges.now c.args.direction ids) c.args.agenda.now c.loop-id.agenda)
    (take_all c.loop-id.id-index c.args.ids.now c.loop-id-test.false) c.loop-id.invariant
