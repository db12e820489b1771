use Rattle.krates_verdict.proofs.Truth.{closed_true, follows_true, kept_true}
use Rattle.krates_verdict.proofs.laws.verdicts_are_true.Goals as goal

pub returns-clause-kept : goal.returns-clause-kept
returns-clause-kept c = kept_true c.accepted_lists.ensures.last

pub returns-clause-follows : goal.returns-clause-follows
returns-clause-follows c = follows_true c.accepted_lists.ensures.last

pub returns-clause-closed : goal.returns-clause-closed
returns-clause-closed c = closed_true c.closed_lists.ensures
