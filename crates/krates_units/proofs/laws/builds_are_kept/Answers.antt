use Rattle.krates_units.proofs.KeptBuild.{keeps_each_build}
use Rattle.krates_units.proofs.laws.builds_are_kept.Goals as goal

pub returns : goal.returns
returns c = keeps_each_build
