use Rattle.krates_verdict.proofs.HeldLemmas.{held_refused}
use Rattle.krates_verdict.proofs.laws.held_or_refused.Goals as goal

pub returns : goal.returns
returns c = held_refused c.one_reading.ensures.certificate c.faults_are_true.ensures.certificate c.one_reading-2.ensures.once
