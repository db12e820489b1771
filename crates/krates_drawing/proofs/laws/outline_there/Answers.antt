use Rattle.krates_drawing.proofs.OutlineThere as outlines
use Rattle.krates_drawing.proofs.laws.outline_there.Goals as goal

pub returns : goal.returns
returns c = outlines.outline_there c.reordering.ensures
