use Rattle.std.proofs.Common.{arith}
use Rattle.krates_text.proofs.CutsLemmas.{CutsLast-rsplit_once}
use Rattle.krates_text.proofs.path.cut_at_last_slash.Goals as goal

pub returns : goal.returns
returns c = CutsLast-rsplit_once _ _ _ c.rsplit_once.ensures.cases (omega arith)
