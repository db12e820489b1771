use Rattle.std.proofs.Common.{◌≡◌, [], length, All}
use Rattle.std.specs.BTreeSet.{keys}
use Rattle.krates.proofs.drawn.empty_sets.Given as goal

abbrev pub invariant-loop-krate : goal.invariant-loop-krate
invariant-loop-krate l = (length l.sets.items ≡ l._krate) × All (λ set. keys set ≡ []) l.sets.items
