use Rattle.std.proofs.Common.{arith}
use Rattle.std.proofs.lemmas.Grind.{elements}
use Rattle.krates_cm.proofs.metadata.Metadata.root_package.Goals as goal

pub returns-in-None : goal.returns-in-None
returns-in-None c = grind (arith, elements)
