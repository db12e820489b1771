use Rattle.krates_ids.proofs.TwiceLemmas.{corrected_once}
use Rattle.krates_ids.proofs.laws.one_correction.Goals as goal

pub returns : goal.returns
returns c = corrected_once
