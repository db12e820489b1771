use Rattle.krates_build_checkers.proofs.FoundRows.{found_before, found_second, found_where}
use Rattle.krates_build_checkers.proofs.initial.finds_of_root.Goals as goal

pub returns-then-finds_root : goal.returns-then-finds_root
returns-then-finds_root c = found_where c.args.entry.now.is_root c.finds_root.result c.args.sought.now _ c.if-entry.true (found_before c.finds_root.result c.args.sought.now _ _ c.if-finds_root.true c.finds_root.ensures)

pub returns-else-finds_root : goal.returns-else-finds_root
returns-else-finds_root c = found_where c.args.entry.now.is_root c.finds_some_requested.result c.args.sought.now _ c.if-entry.true (found_second c.finds_root.result c.finds_some_requested.result c.args.sought.now _ _ c.if-finds_root.false c.finds_root.ensures (rw c.deref.ensures.value at c.finds_some_requested.ensures))
