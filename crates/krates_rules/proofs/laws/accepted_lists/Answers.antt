use Rattle.krates_rules.specs.Questions.{questions}
use Rattle.krates_rules.proofs.ListsOfSteps.{contained_derived, last_derived}
use Rattle.krates_rules.proofs.laws.accepted_lists.Goals as goal

pub returns-clause-each : goal.returns-clause-each
returns-clause-each c r s steps a x among = contained_derived (questions r s) steps a.each x among

pub returns-clause-last : goal.returns-clause-last
returns-clause-last c r s steps f a ends = last_derived (questions r s) steps f a.each ends
