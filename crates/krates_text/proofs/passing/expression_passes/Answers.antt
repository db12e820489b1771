use Rattle.std.proofs.Common.{arith}
use Rattle.std.proofs.lemmas.Grind.{common_steps}
use Rattle.krates_text.proofs.passing.expression_passes.Goals as goal

pub returns-then-is_empty : goal.returns-then-is_empty
returns-then-is_empty c = grind (arith, common_steps)

pub returns-then-eval : goal.returns-then-eval
returns-then-eval c = grind (arith, common_steps)

pub loop-target-preserved : goal.loop-target-preserved
loop-target-preserved c = grind (arith, common_steps)

pub returns : goal.returns
returns c = grind (arith, common_steps)
