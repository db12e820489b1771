use Rattle.std.proofs.Common.{◌≡◌, ℕ, Some, length, slice_get}
use Rattle.krates_queries.specs.Kept.{IsStart}
use Rattle.krates_queries.proofs.numbers.starts_of.Given as goal

-- one start for each number so far
abbrev pub invariant-loop-krate : goal.invariant-loop-krate
invariant-loop-krate g l = (length l.starts.items ≡ l.krate) × ((p n : ℕ) → slice_get l.starts.items p ≡ Some n → IsStart l.nodes p n)
