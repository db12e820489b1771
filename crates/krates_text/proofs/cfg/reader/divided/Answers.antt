use Rattle.std.proofs.Common.{arith}
use Rattle.std.proofs.lemmas.Grind.{common_steps}
use Rattle.krates_text.proofs.cfg.reader.divided.Goals as goal

pub returns : goal.returns
returns c = grind (arith, common_steps)
