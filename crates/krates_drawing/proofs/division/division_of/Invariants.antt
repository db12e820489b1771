use Rattle.std.proofs.Common.{◌≡◌, filter, not}
use Rattle.krates_drawing.specs.Division.{is_selected, outline_ids}
use Rattle.krates_drawing.proofs.division.division_of.Given as goal

abbrev pub invariant-loop-krate : goal.invariant-loop-krate
invariant-loop-krate l =
    goal.iterator-loop-krate.can_next l.krate-iterator
    × goal.iterator-loop-krate.is_finite l.krate-iterator
    × (l.kept.items ≡ filter (is_selected (outline_ids l.selected)) l.yielded)
    × (l.others.items ≡ filter (λ k. not (is_selected (outline_ids l.selected) k)) l.yielded)
