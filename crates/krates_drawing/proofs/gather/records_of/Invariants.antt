use Rattle.std.specs.List.{AllZip}
use Rattle.krates_questions.specs.Lookup.{resolved_view}
use Rattle.krates_drawing.specs.Gathered.{IsRecordOf}
use Rattle.krates_drawing.proofs.gather.records_of.Given as goal

abbrev pub invariant-loop-krate : goal.invariant-loop-krate
invariant-loop-krate l =
    goal.iterator-loop-krate.can_next l.krate-iterator
    × goal.iterator-loop-krate.is_finite l.krate-iterator
    × AllZip (IsRecordOf (resolved_view l.document)) l.yielded l.records.items
