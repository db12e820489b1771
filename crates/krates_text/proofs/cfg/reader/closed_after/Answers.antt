use Rattle.std.proofs.Common.{arith}
use Rattle.std.proofs.lemmas.Grind.{common_steps}
use Rattle.krates_text.proofs.cfg.reader.closed_after.Goals as goal

pub returns-in-None : goal.returns-in-None
returns-in-None c = grind (arith, common_steps)

pub returns-in_ok-not_of-in-Some-Not : goal.returns-in_ok-not_of-in-Some-Not
returns-in_ok-not_of-in-Some-Not c = grind (arith, common_steps)

pub returns-in_ok-with_last-in-Some-All : goal.returns-in_ok-with_last-in-Some-All
returns-in_ok-with_last-in-Some-All c = grind (arith, common_steps)

pub returns-in_ok-with_last-in-Some-Any : goal.returns-in_ok-with_last-in-Some-Any
returns-in_ok-with_last-in-Some-Any c = grind (arith, common_steps)
