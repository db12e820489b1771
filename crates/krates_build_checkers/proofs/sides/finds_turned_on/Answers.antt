use Rattle.krates_build_checkers.proofs.FoundRows.{found_first, found_second}
use Rattle.krates_build_checkers.proofs.sides.finds_turned_on.Goals as goal

pub returns-then-is_if : goal.returns-then-is_if
returns-then-is_if c = found_first c.is_if.result c.args.sought.now _ _ c.if-is_if.true (rw c.turns_on.ensures at c.is_if.ensures)

pub returns : goal.returns
returns c = found_second c.is_if.result c.is_if-2.result c.args.sought.now _ _ c.if-is_if.false (rw c.turns_on.ensures at c.is_if.ensures) (rw c.turns_on_feature.ensures at c.is_if-2.ensures)
