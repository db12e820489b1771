use Rattle.std.proofs.Common.{true≢false, sym, ◌∙◌}
use Rattle.krates_answers.proofs.difference.DependencyEdgePart.means_same.Goals as goal

pub returns-then-mean_same : goal.returns-then-mean_same
returns-then-mean_same c = (
  λ t. record { child = c.mean_same.ensures.0 c.if-mean_same.true; parent = c.mean_same-then-mean_same.ensures.0 t },
  λ same. c.mean_same-then-mean_same.ensures.1 same.parent,
)

pub returns-else-mean_same : goal.returns-else-mean_same
returns-else-mean_same c = (
  λ t. absurd (true≢false (sym t ∙ c.if-mean_same.false)),
  λ same. c.mean_same.ensures.1 same.child,
)
