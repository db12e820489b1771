use Rattle.krates_drawing.proofs.Placed as placed
use Rattle.krates_drawing.proofs.laws.connected.Goals as goal

pub returns : goal.returns
returns c = placed.connected
