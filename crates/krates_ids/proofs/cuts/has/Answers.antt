use Rattle.krates_text.proofs.CutsLemmas.{TellsHas-cut}
use Rattle.krates_ids.proofs.cuts.has.Goals as goal

pub returns : goal.returns
returns c = rw c.is_some.ensures (TellsHas-cut _ _ _ c.cut_first.ensures)
