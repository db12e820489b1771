use Rattle.krates_units.proofs.PlainBuild.{builds_each_kept}
use Rattle.krates_units.proofs.laws.plain_builds.Goals as goal

pub returns : goal.returns
returns c = builds_each_kept
