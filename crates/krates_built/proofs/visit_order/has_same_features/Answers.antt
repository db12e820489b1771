use Rattle.std.proofs.Common.{refl}
use Rattle.krates_built.proofs.SameFeatures.{all_same, one_sided}
use Rattle.krates_built.proofs.visit_order.has_same_features.Goals as goal

pub returns-then-not-is_feature_of_both : goal.returns-then-not-is_feature_of_both
returns-then-not-is_feature_of_both c = (
  λ t. absurd cc,
  λ h. absurd (one_sided c.args.derived.now c.args.krate c.args.features.now c.requires c.loop-feature.feature-index _ c.is_feature_of_both.result c.loop-feature-test.true c.if-feature-krate.true c.is_feature_of_both.ensures c.if-not-is_feature_of_both.true h),
)

pub returns : goal.returns
returns c = (
  λ t. all_same c.args.derived.now c.args.krate c.args.features.now c.requires c.loop-feature.feature-index c.loop-feature-test.false c.loop-feature.invariant,
  λ h. refl,
)
