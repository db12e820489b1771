use Rattle.krates_rules.specs.Questions.{questions}
use Rattle.krates_rules.proofs.DerivationLaws.{closed_has_all}
use Rattle.krates_rules.proofs.laws.closed_lists.Goals as goal

pub returns : goal.returns
returns c r s fs closed f d = closed_has_all (questions r s) fs closed d
