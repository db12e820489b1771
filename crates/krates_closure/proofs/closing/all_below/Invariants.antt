use Rattle.std.proofs.Common.{◌≡◌, ◌<◌, ℕ, length}
use Rattle.std.specs.List.{Contains}
use Rattle.krates_closure.proofs.closing.all_below.Given as goal

abbrev pub invariant-loop-number : goal.invariant-loop-number
invariant-loop-number l = record {
  length : length l.numbers.items ≡ l.number;
  below : (n : ℕ) → Contains l.numbers.items n → n < l.number;
  all : (n : ℕ) → n < l.number → Contains l.numbers.items n;
}
