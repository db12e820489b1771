use Rattle.krates_ids.proofs.TwiceLemmas.{corrected_twice}
use Rattle.krates_ids.proofs.laws.correcting_twice.Goals as goal

pub returns : goal.returns
returns c = corrected_twice
