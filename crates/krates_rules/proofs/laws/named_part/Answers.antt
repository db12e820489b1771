use Rattle.krates_rules.proofs.Narrowed.{is_named_part}
use Rattle.krates_rules.proofs.laws.named_part.Goals as goal

pub returns : goal.returns
returns c = is_named_part
