use Rattle.krates_manifest.proofs.OneAnswer.{is_one_resolver}
use Rattle.krates_manifest.proofs.laws.one_resolver.Goals as goal

pub returns : goal.returns
returns c = is_one_resolver
