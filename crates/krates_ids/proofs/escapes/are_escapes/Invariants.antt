use Rattle.std.proofs.Common.{ℕ, ◌<◌}
use Rattle.krates_ids.specs.Escapes.{IsEscapedAt}
use Rattle.krates_ids.proofs.escapes.are_escapes.Given as goal

abbrev pub invariant-loop-i : goal.invariant-loop-i
invariant-loop-i l = (k : ℕ) → k < l.i → IsEscapedAt l.bytes k
