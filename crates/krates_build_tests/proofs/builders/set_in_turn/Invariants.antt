use Rattle.std.proofs.Common.{◌≡◌}
use Rattle.krates_build_tests.proofs.builders.set_in_turn.Given as goal

-- no section sets an index
abbrev pub invariant-loop-section : goal.invariant-loop-section
invariant-loop-section g l = l.builder.index ≡ l.fn.builder.index
