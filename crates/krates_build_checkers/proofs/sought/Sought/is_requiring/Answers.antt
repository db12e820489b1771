use Rattle.krates_build_checkers.proofs.FoundRows.{open_found, step_found}
use Rattle.krates_build_checkers.proofs.sought.Sought.is_requiring.Goals as goal

pub returns-in-Step : goal.returns-in-Step
returns-in-Step c = rw c.in-Step.is (step_found c.is_step_requiring.result c.in-Step.step _ c.is_step_requiring.ensures)

pub returns-in-Open : goal.returns-in-Open
returns-in-Open c = rw c.in-Open.is (open_found c.is_open_requiring.result c.in-Open.given _ c.is_open_requiring.ensures.open c.is_open_requiring.ensures.kept)
