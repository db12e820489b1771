use Rattle.krates_certificate.proofs.NeverBoth.{never_fact, never_step, never_certificate}
use Rattle.krates_certificate.proofs.laws.faults_are_true.Goals as goal

pub returns-clause-fact : goal.returns-clause-fact
returns-clause-fact c = never_fact

pub returns-clause-step : goal.returns-clause-step
returns-clause-step c = never_step

pub returns-clause-certificate : goal.returns-clause-certificate
returns-clause-certificate c = never_certificate
