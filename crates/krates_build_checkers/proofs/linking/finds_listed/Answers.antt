use Rattle.krates_build_checkers.proofs.FoundRows.{none_mapped, none_mapped_get}
use Rattle.krates_build_checkers.proofs.linking.finds_listed.Goals as goal

pub loop-reference-preserved : goal.loop-reference-preserved
loop-reference-preserved c = none_mapped_get _ _ _ _ _ _ c.loop-reference-test.true c.if-is.false c.loop-reference.invariant c.is.ensures

pub returns : goal.returns
returns c = none_mapped _ _ _ _ c.loop-reference-test.false c.loop-reference.invariant
