use Rattle.krates_build_naming.proofs.SameFact.{same_told}
use Rattle.krates_build_naming.proofs.writing.is_same.Goals as goal

pub returns : goal.returns
returns c = same_told c.cmp.result c.is_eq.result c.args.fact.now c.args.other.now c.cmp.ensures c.is_eq.ensures
