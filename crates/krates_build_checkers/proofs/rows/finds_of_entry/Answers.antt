use Rattle.krates_build_checkers.proofs.rows.finds_of_entry.Goals as goal

pub returns-in-LinkedReference : goal.returns-in-LinkedReference
returns-in-LinkedReference c = rw c.in-LinkedReference.is c.finds_implied_in.ensures
