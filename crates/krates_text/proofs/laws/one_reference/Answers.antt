use Rattle.krates_text.proofs.FeatureReference.{one_reference}
use Rattle.krates_text.proofs.laws.one_reference.Goals as goal

pub returns : goal.returns
returns c = one_reference
