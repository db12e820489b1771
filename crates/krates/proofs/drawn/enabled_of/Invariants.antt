use Rattle.std.proofs.Common.{◌≡◌, length, map}
use Rattle.krates_drawing.specs.declared.outline.FeatureRow.{FeatureRow}
use Rattle.krates.specs.Enabled.{AreEnabledSets}
use Rattle.krates.proofs.drawn.enabled_of.Given as goal

abbrev pub invariant-loop-row : goal.invariant-loop-row
invariant-loop-row l =
    goal.iterator-loop-row.can_next l.row-iterator
    × goal.iterator-loop-row.is_finite l.row-iterator
    × (length l.sets.items ≡ l.krates)
    × AreEnabledSets (map (λ (row : FeatureRow). row.feature) l.yielded) l.sets.items
