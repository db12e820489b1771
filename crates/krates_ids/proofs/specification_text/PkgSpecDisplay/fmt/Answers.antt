use Rattle.std.proofs.Common.{arith}
use Rattle.std.proofs.lemmas.Grind.{common_steps}
use Rattle.krates_ids.proofs.specification_text.PkgSpecDisplay.fmt.Goals as goal

pub returns-in-Some-version : goal.returns-in-Some-version
returns-in-Some-version g c = grind (arith, common_steps)

pub returns-in-None-version : goal.returns-in-None-version
returns-in-None-version g c = grind (arith, common_steps)

pub returns-in-Some-version-2 : goal.returns-in-Some-version-2
returns-in-Some-version-2 g c = grind (arith, common_steps)
