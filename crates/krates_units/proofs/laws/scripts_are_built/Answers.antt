use Rattle.krates_units.specs.Built.{as_script}
use Rattle.krates_units.proofs.laws.scripts_are_built.Goals as goal

pub returns : goal.returns
returns c = λ r s i n d. (n, as_script d)
