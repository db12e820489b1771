use Rattle.krates_build_certificate.proofs.CertificateAgain.{machine_again, step_again, certificate_again}
use Rattle.krates_build_certificate.proofs.laws.written_is_read.Goals as goal

pub returns-clause-machine : goal.returns-clause-machine
returns-clause-machine c = λ x d w key. machine_again key x d w

pub returns-clause-step : goal.returns-clause-step
returns-clause-step c = λ x d w key. step_again key x d w

pub returns-clause-certificate : goal.returns-clause-certificate
returns-clause-certificate c = λ x d w key. certificate_again key x d w
