use Rattle.krates_drawing.proofs.NarrowerOutline as parts
use Rattle.krates_drawing.proofs.laws.narrower_draws_no_more.Goals as goal

pub returns : goal.returns
returns c = parts.narrower_draws_no_more c.narrowing.ensures c.one_reference.ensures
