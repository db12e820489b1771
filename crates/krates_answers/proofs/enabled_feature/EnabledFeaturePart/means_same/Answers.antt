use Rattle.std.proofs.Common.{rules}
use Rattle.krates_answers.proofs.enabled_feature.EnabledFeaturePart.means_same.Goals as goal

pub returns-then-is_same_side : goal.returns-then-is_same_side
returns-then-is_same_side c = (
  λ t. record { name = search rules; side = search rules; krate = c.mean_same.ensures.0 t },
  λ same. c.mean_same.ensures.1 same.krate,
)
