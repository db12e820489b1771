use Rattle.krates_rules.proofs.Reordered.{order_free}
use Rattle.krates_rules.proofs.laws.reordering.Goals as goal

pub returns : goal.returns
returns c = order_free
