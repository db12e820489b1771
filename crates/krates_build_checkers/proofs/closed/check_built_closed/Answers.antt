use Rattle.krates_build_checkers.proofs.closed.check_built_closed.Goals as goal

pub returns-then-branch-clause-closed : goal.returns-then-branch-clause-closed
returns-then-branch-clause-closed c = c.in_ok-is_closed.ensures.0 c.if-branch.true
