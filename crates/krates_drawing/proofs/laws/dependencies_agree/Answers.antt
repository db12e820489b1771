use Rattle.krates_drawing.proofs.Agreed.{agreed}
use Rattle.krates_drawing.proofs.laws.dependencies_agree.Goals as goal

pub returns : goal.returns
returns c = agreed
