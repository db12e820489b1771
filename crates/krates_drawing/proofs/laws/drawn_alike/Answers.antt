use Rattle.krates_drawing.proofs.OneOutline as outlines
use Rattle.krates_drawing.proofs.laws.drawn_alike.Goals as goal

pub returns : goal.returns
returns c = outlines.drawn_alike c.reordering.ensures c.one_reference.ensures
