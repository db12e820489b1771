use Rattle.std.specs.List.{FoldsTo}
use Rattle.krates_drawing.specs.Division.{krate_packages}
use Rattle.krates_drawing.proofs.division.report.Given as goal

abbrev pub invariant-loop-other : goal.invariant-loop-other
invariant-loop-other g l =
    (goal.iterator-loop-other g).can_next l.other-iterator
    × (goal.iterator-loop-other g).is_finite l.other-iterator
    × g.F.OnFilter.can_filter l.filter
    × FoldsTo g.F.OnFilter.filters l.fn.filter (krate_packages l.yielded) l.filter
