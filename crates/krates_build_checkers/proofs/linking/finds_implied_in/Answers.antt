use Rattle.krates_build_checkers.proofs.linking.finds_implied_in.Goals as goal

pub returns : goal.returns
returns c = rw c.deref.ensures.value at c.finds_implied.ensures
