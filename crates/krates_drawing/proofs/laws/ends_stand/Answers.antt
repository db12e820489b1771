use Rattle.krates_drawing.proofs.Standing.{all_stand}
use Rattle.krates_drawing.proofs.laws.ends_stand.Goals as goal

pub returns : goal.returns
returns c = all_stand
