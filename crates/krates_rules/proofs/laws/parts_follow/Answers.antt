use Rattle.krates_rules.specs.Questions.{questions}
use Rattle.krates_rules.proofs.ListsOfSteps.{part_follows}
use Rattle.krates_rules.proofs.laws.parts_follow.Goals as goal

pub returns : goal.returns
returns c r s steps chosen part p each = part_follows (questions r s) steps chosen part p each
