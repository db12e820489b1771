use Rattle.std.proofs.Common.{arith}
use Rattle.std.proofs.lemmas.Grind.{common_steps}
use Rattle.krates_drawing.proofs.division.division_of.Goals as goal

pub loop-krate-preserved : goal.loop-krate-preserved
loop-krate-preserved c = grind (arith, common_steps)

pub loop-krate-preserved-in-Continue-branch-2 : goal.loop-krate-preserved-in-Continue-branch-2
loop-krate-preserved-in-Continue-branch-2 c = grind (arith, common_steps)
