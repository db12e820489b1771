use Rattle.krates_manifest.proofs.OneAnswer.{is_one_cause}
use Rattle.krates_manifest.proofs.laws.one_cause.Goals as goal

pub returns : goal.returns
returns c = is_one_cause
