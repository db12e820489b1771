use Rattle.krates_build_checkers.proofs.SameFacts.{same_told}
use Rattle.krates_build_checkers.proofs.same.is_same.Goals as goal

pub returns : goal.returns
returns c = same_told c.cmp.result c.is_eq.result c.args.fact.now c.args.other.now c.cmp.ensures c.is_eq.ensures
