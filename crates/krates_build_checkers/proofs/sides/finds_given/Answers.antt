use Rattle.krates_build_checkers.proofs.FoundRows.{found_second}
use Rattle.krates_build_checkers.proofs.sides.finds_given.Goals as goal

pub returns-else-is : goal.returns-else-is
returns-else-is c = found_second c.is.result c.finds_feature_given.result c.args.sought.now _ _ c.if-is.false (rw c.leads_from-to.ensures at c.is.ensures) (rw (c.deref.ensures.value, c.leads_from-to.ensures) at c.finds_feature_given.ensures)
