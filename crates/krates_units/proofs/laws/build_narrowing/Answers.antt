use Rattle.krates_units.proofs.BuildNarrowed.{is_build_narrowing}
use Rattle.krates_units.proofs.laws.build_narrowing.Goals as goal

pub returns : goal.returns
returns c = is_build_narrowing
