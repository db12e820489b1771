use Rattle.krates_cli.proofs.OptionsLemmas.{same_line}
use Rattle.krates_cli.proofs.laws.one_command_line.Goals as goal

pub returns : goal.returns
returns c = same_line c.one_specification.ensures.one c.one_reading.ensures.once
