use Rattle.krates_build_checkers.proofs.closed.is_closed.Goals as goal

pub returns : goal.returns
returns c = c.has_all.ensures c.in_ok-given.ensures
