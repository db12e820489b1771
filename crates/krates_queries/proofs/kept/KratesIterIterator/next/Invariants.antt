use Rattle.std.proofs.Common.{◌≡◌, length}
use Rattle.krates_drawing.specs.Node.{crate_values}
use Rattle.krates_queries.proofs.kept.KratesIterIterator.next.Given as goal

abbrev pub invariant-loop-first : goal.invariant-loop-first
invariant-loop-first g l = crate_values l.self-inside.left.now ≡ l.fn.self

abbrev pub decreases-loop-first : goal.decreases-loop-first
decreases-loop-first g l = length l.self-inside.left.now
