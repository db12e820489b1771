use Rattle.krates_build_checkers.proofs.FoundRows.{found_first, found_second}
use Rattle.krates_build_checkers.proofs.units.finds_one_beside.Goals as goal

pub returns-then-finds_program_run : goal.returns-then-finds_program_run
returns-then-finds_program_run c = found_first c.finds_program_run.result c.args.sought.now _ _ c.if-finds_program_run.true
    (found_second c.is_if.result c.finds_program_run.result c.args.sought.now _ _ c.if-is_if.false (rw (c.is_own.ensures, c.unit_of.ensures) at c.is_if.ensures) c.finds_program_run.ensures)

pub returns : goal.returns
returns c = found_second c.finds_program_run.result c.is_if-2.result c.args.sought.now _ _ c.if-finds_program_run.false
    (found_second c.is_if.result c.finds_program_run.result c.args.sought.now _ _ c.if-is_if.false (rw (c.is_own.ensures, c.unit_of.ensures) at c.is_if.ensures) c.finds_program_run.ensures) c.is_if-2.ensures
