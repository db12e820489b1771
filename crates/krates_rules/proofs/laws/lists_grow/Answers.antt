use Rattle.krates_rules.specs.Questions.{questions}
use Rattle.krates_rules.proofs.ListsOfSteps.{given_grown, given_derivable, step_put}
use Rattle.krates_rules.proofs.laws.lists_grow.Goals as goal

pub returns-clause-derivable : goal.returns-clause-derivable
returns-clause-derivable c r s steps rule uses f each g = given_derivable (questions r s) steps rule uses f each g

pub returns-clause-put : goal.returns-clause-put
returns-clause-put c r s steps rule uses f each g = step_put (questions r s) steps rule uses f each g

pub returns-clause-stays : goal.returns-clause-stays
returns-clause-stays c r s steps more rule uses f g = given_grown (questions r s) steps more rule uses f g
