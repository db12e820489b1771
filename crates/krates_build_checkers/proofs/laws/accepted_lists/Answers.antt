use Rattle.krates_build_checkers.proofs.GivenSteps.{accepted_are_rules, accepted_follows, accepted_is_derivable}
use Rattle.krates_build_checkers.proofs.laws.accepted_lists.Goals as goal

pub returns-clause-follows : goal.returns-clause-follows
returns-clause-follows c = accepted_follows c.steps.ensures.sound

pub returns-clause-derivable : goal.returns-clause-derivable
returns-clause-derivable c = accepted_is_derivable c.steps.ensures.sound c.meaning.ensures.sound

pub returns-clause-rules : goal.returns-clause-rules
returns-clause-rules c = accepted_are_rules c.steps.ensures.rules
