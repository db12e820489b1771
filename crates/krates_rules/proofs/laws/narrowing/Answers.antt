use Rattle.krates_rules.proofs.Narrowed.{is_narrowing}
use Rattle.krates_rules.proofs.laws.narrowing.Goals as goal

pub returns : goal.returns
returns c = is_narrowing
