use Rattle.krates_manifest.proofs.OneAnswer.{is_no_refusal_of_what_is_used}
use Rattle.krates_manifest.proofs.laws.no_refusal_of_what_is_used.Goals as goal

pub returns : goal.returns
returns c = is_no_refusal_of_what_is_used
