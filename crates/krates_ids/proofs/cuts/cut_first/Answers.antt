use Rattle.krates_text.proofs.CutsLemmas.{CutsFirst-split_once}
use Rattle.krates_ids.proofs.cuts.cut_first.Goals as goal

pub returns : goal.returns
returns c = CutsFirst-split_once _ _ _ c.split_once.ensures.cases c.requires
