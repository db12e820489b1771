use Rattle.krates_build_naming.proofs.NamingFaults.{facts_exact}
use Rattle.krates_build_naming.proofs.laws.faults_are_exact.Goals as goal

pub returns : goal.returns
returns c = facts_exact
