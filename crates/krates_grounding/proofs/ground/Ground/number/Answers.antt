use Rattle.krates_grounding.proofs.RequiredTexts.{numbers_had}
use Rattle.krates_grounding.proofs.ground.Ground.number.Goals as goal

pub returns : goal.returns
returns c = numbers_had _ _ _ _ c.in_ok-numbers_of.ensures
