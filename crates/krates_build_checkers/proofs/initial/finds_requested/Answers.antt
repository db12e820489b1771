use Rattle.krates_build_checkers.proofs.FoundRows.{found_second}
use Rattle.krates_build_checkers.proofs.initial.finds_requested.Goals as goal

pub returns-else-is-2 : goal.returns-else-is-2
returns-else-is-2 c = found_second c.is.result c.is_if.result c.args.sought.now _ _ c.if-is.false c.is.ensures (found_second c.is-2.result c.is_if.result c.args.sought.now _ _ c.if-is-2.false c.is-2.ensures c.is_if.ensures)
