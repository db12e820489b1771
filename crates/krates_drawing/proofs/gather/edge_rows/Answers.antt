use Rattle.std.proofs.Common.{refl}
use Rattle.krates_questions.specs.Lookup.{resolved_view}
use Rattle.krates_rules.proofs.Zips.{zip_push}
use Rattle.krates_drawing.specs.Gathered.{IsBetween, IsEdgeWith}
use Rattle.krates_drawing.proofs.Gathering.{all_rows, at_turn}
use Rattle.krates_drawing.proofs.gather.edge_rows.Goals as goal

pub given_by-requires : goal.given_by-requires
given_by-requires c =
    at_turn (IsBetween (resolved_view c.args.document.now) c.args.records.now) _ c.into_iter-edge-iterator.result c.loop-edge.edge-iterator c.next.new.self _ _ _ c.requires c.into_iter-edge-iterator.ensures.into_iter_gives.0 c.loop-edge.yielded_by c.in-Some.is c.next.ensures.steps

pub loop-edge-preserved : goal.loop-edge-preserved
loop-edge-preserved c =
    let l = c.loop-edge in
    (tt, tt, rw c.in_ok-push.ensures.items (zip_push (IsEdgeWith (resolved_view c.args.document.now) c.args.records.now) l.yielded l.rows.items c.in-Some.edge _ l.invariant.2 (record { edge = refl; given = c.in_ok-given.ensures })))

pub returns : goal.returns
returns c = all_rows _ _ _ c.into_iter-edge-iterator.result c.loop-edge.edge-iterator c.next.new.self _ _ c.into_iter-edge-iterator.ensures.into_iter_gives.0 c.loop-edge.yielded_by c.in-None.is c.next.ensures.steps c.loop-edge.invariant.2
