use Rattle.krates_closure.proofs.ClosureLemmas.{Derivable-given}
use Rattle.krates_closure.proofs.laws.given_facts.Goals as goal

pub returns : goal.returns
returns c = Derivable-given
