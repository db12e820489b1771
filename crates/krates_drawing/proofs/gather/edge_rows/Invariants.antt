use Rattle.std.specs.List.{AllZip}
use Rattle.krates_questions.specs.Lookup.{resolved_view}
use Rattle.krates_drawing.specs.Gathered.{IsEdgeWith}
use Rattle.krates_drawing.proofs.gather.edge_rows.Given as goal

abbrev pub invariant-loop-edge : goal.invariant-loop-edge
invariant-loop-edge l =
    goal.iterator-loop-edge.can_next l.edge-iterator
    × goal.iterator-loop-edge.is_finite l.edge-iterator
    × AllZip (IsEdgeWith (resolved_view l.document) l.records) l.yielded l.rows.items
