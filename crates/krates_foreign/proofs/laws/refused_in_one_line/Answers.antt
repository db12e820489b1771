use Rattle.krates_foreign.proofs.RefusalLemmas.{one_line}
use Rattle.krates_foreign.proofs.laws.refused_in_one_line.Goals as goal

pub returns : goal.returns
returns c = one_line
