use Rattle.krates_build_checkers.proofs.ClosedLists.{closed_has_all, closed_has_derivable, following_is_closed}
use Rattle.krates_build_checkers.proofs.laws.closed_lists.Goals as goal

pub returns-clause-all : goal.returns-clause-all
returns-clause-all c = closed_has_all

pub returns-clause-derivable : goal.returns-clause-derivable
returns-clause-derivable c = closed_has_derivable c.meaning.ensures.exact

pub returns-clause-following : goal.returns-clause-following
returns-clause-following c = following_is_closed
