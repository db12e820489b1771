use Rattle.krates_verdict.proofs.Truth.{follows_there, kept_there}
use Rattle.krates_verdict.proofs.laws.verdicts_name_the_document.Goals as goal

pub returns-clause-kept : goal.returns-clause-kept
returns-clause-kept c = kept_there c.accepted_lists.ensures.last

pub returns-clause-follows : goal.returns-clause-follows
returns-clause-follows c = follows_there c.accepted_lists.ensures.last
