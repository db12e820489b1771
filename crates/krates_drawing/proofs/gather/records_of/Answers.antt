use Rattle.std.proofs.Common.{refl}
use Rattle.krates_questions.specs.Lookup.{resolved_view}
use Rattle.krates_rules.proofs.Zips.{zip_push}
use Rattle.krates_drawing.specs.Gathered.{IsRecordOf, Stands}
use Rattle.krates_drawing.proofs.Gathering.{all_rows, at_turn}
use Rattle.krates_drawing.proofs.gather.records_of.Goals as goal

pub unreachable-requires : goal.unreachable-requires
unreachable-requires c =
    (at_turn (Stands (resolved_view c.args.document.now)) _ c.into_iter-krate-iterator.result c.loop-krate.krate-iterator c.next.new.self _ _ _ c.requires c.into_iter-krate-iterator.ensures.into_iter_gives.0 c.loop-krate.yielded_by c.in-Some.is c.next.ensures.steps).0 c.in_default.ensures

pub unreachable-requires-in_default-node_of : goal.unreachable-requires-in_default-node_of
unreachable-requires-in_default-node_of c =
    (at_turn (Stands (resolved_view c.args.document.now)) _ c.into_iter-krate-iterator.result c.loop-krate.krate-iterator c.next.new.self _ _ _ c.requires c.into_iter-krate-iterator.ensures.into_iter_gives.0 c.loop-krate.yielded_by c.in-Some.is c.next.ensures.steps).1 c.in_default-node_of.ensures

pub loop-krate-preserved : goal.loop-krate-preserved
loop-krate-preserved c =
    let l = c.loop-krate in
    (tt, tt, rw c.in_ok-push.ensures.items (zip_push (IsRecordOf (resolved_view c.args.document.now)) l.yielded l.records.items c.in-Some.krate _ l.invariant.2 (record { krate = refl; pkg = c.in-Some-package_of.ensures; node = c.in-Some-node_of.ensures })))

pub returns : goal.returns
returns c = all_rows _ _ _ c.into_iter-krate-iterator.result c.loop-krate.krate-iterator c.next.new.self _ _ c.into_iter-krate-iterator.ensures.into_iter_gives.0 c.loop-krate.yielded_by c.in-None.is c.next.ensures.steps c.loop-krate.invariant.2
