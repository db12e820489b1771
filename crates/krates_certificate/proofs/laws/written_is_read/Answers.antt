use Rattle.krates_certificate.proofs.PartsAgain.{fact_again, step_again, certificate_again}
use Rattle.krates_certificate.proofs.laws.written_is_read.Goals as goal

pub returns-clause-fact : goal.returns-clause-fact
returns-clause-fact c = fact_again

pub returns-clause-step : goal.returns-clause-step
returns-clause-step c = step_again

pub returns-clause-certificate : goal.returns-clause-certificate
returns-clause-certificate c = certificate_again
