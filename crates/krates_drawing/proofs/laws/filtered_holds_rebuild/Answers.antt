use Rattle.krates_drawing.proofs.Rebuilt.{holds_rebuild}
use Rattle.krates_drawing.proofs.laws.filtered_holds_rebuild.Goals as goal

pub returns : goal.returns
returns c = holds_rebuild c.narrowing.ensures
