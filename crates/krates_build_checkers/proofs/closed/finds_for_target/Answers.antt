use Rattle.krates_build_checkers.proofs.closed.finds_for_target.Goals as goal

pub returns : goal.returns
returns c = rw c.deref.ensures.value at c.finds_text.ensures
