use Rattle.std.proofs.Common.{arith}
use Rattle.std.proofs.lemmas.Grind.{common_steps}
use Rattle.krates_queries.proofs.queries.direct.push_feature_sources.Goals as goal

pub loop-source-preserved : goal.loop-source-preserved
loop-source-preserved c = grind (arith, common_steps)
