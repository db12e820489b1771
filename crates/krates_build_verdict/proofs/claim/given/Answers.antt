use Rattle.krates_build_verdict.proofs.NamedClaims.{given_here}
use Rattle.krates_build_verdict.proofs.claim.given.Goals as goal

pub returns-in-Some-clause-given : goal.returns-in-Some-clause-given
returns-in-Some-clause-given c = given_here c.args.before.now c.args.used c.in-Some.step.now c.in-Some.ensures.lookup.3.0 c.in-Some.ensures.lookup.1
