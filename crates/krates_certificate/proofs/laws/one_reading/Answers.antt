use Rattle.krates_certificate.proofs.OneReading.{one_fact, one_step, one_certificate}
use Rattle.krates_certificate.proofs.laws.one_reading.Goals as goal

pub returns-clause-fact : goal.returns-clause-fact
returns-clause-fact c = one_fact

pub returns-clause-step : goal.returns-clause-step
returns-clause-step c = one_step

pub returns-clause-certificate : goal.returns-clause-certificate
returns-clause-certificate c = one_certificate
