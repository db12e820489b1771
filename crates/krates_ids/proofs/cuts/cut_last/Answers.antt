use Rattle.krates_text.proofs.CutsLemmas.{CutsLast-rsplit_once}
use Rattle.krates_ids.proofs.cuts.cut_last.Goals as goal

pub returns : goal.returns
returns c = CutsLast-rsplit_once _ _ _ c.rsplit_once.ensures.cases c.requires
