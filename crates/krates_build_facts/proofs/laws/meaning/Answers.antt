use Rattle.krates_build_facts.proofs.FollowingFacts.{each_has_meaning, each_has_number, each_row_is_rule, follows_as_derivable}
use Rattle.krates_build_facts.proofs.laws.meaning.Goals as goal

pub returns-clause-exact : goal.returns-clause-exact
returns-clause-exact c = follows_as_derivable

pub returns-clause-sound : goal.returns-clause-sound
returns-clause-sound c = each_has_meaning

pub returns-clause-complete : goal.returns-clause-complete
returns-clause-complete c = each_has_number

pub returns-clause-rules : goal.returns-clause-rules
returns-clause-rules c = each_row_is_rule
