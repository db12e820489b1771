use Rattle.krates_build_certificate.proofs.CertificateFaults.{machine_exact, step_exact, certificate_exact}
use Rattle.krates_build_certificate.proofs.laws.faults_are_exact.Goals as goal

pub returns-clause-machine : goal.returns-clause-machine
returns-clause-machine c = machine_exact

pub returns-clause-step : goal.returns-clause-step
returns-clause-step c = step_exact

pub returns-clause-certificate : goal.returns-clause-certificate
returns-clause-certificate c = certificate_exact
