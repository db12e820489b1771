use Rattle.krates_build_checkers.proofs.FoundRows.{open_found, step_found}
use Rattle.krates_build_checkers.proofs.sought.Sought.is.Goals as goal

pub returns-in-Step : goal.returns-in-Step
returns-in-Step c = rw c.in-Step.is (step_found c.is_step.result c.in-Step.step _ c.is_step.ensures)

pub returns-in-Open : goal.returns-in-Open
returns-in-Open c = rw c.in-Open.is (open_found c.is_open.result c.in-Open.given _ c.is_open.ensures.open c.is_open.ensures.kept)
