use Rattle.krates_closure.proofs.ClosureLemmas.{Derivable-more}
use Rattle.krates_closure.proofs.laws.more_clauses.Goals as goal

pub returns : goal.returns
returns c = Derivable-more
