use Rattle.std.proofs.Common.{ℕ, ◌<◌}
use Rattle.krates_built.specs.OrderAt.{DependsAt}
use Rattle.krates_built.proofs.visit_order.first_dependent.Given as goal

-- none so far depends on the order
abbrev pub invariant-loop-krate : goal.invariant-loop-krate
invariant-loop-krate l = (k : ℕ) → k < l.krate → ¬ DependsAt l.listed.derived k
