use Rattle.krates_units.proofs.WholeSetting.{allows_each_build}
use Rattle.krates_units.proofs.laws.whole_settings.Goals as goal

pub returns : goal.returns
returns c = allows_each_build
