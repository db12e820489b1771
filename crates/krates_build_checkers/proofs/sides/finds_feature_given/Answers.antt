use Rattle.krates_build_checkers.proofs.FoundRows.{none_mapped, none_mapped_get}
use Rattle.krates_build_checkers.proofs.sides.finds_feature_given.Goals as goal

pub loop-feature-preserved : goal.loop-feature-preserved
loop-feature-preserved c = none_mapped_get _ _ _ _ _ _ c.loop-feature-test.true c.if-is.false c.loop-feature.invariant c.is.ensures

pub returns : goal.returns
returns c = none_mapped _ _ _ _ c.loop-feature-test.false c.loop-feature.invariant
