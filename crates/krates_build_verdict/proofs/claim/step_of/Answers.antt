use Rattle.std.proofs.lemmas.Result.{err_from_is_err_and}
use Rattle.krates_build_verdict.proofs.NamedClaims.{step_nameless}
use Rattle.krates_build_verdict.proofs.claim.step_of.Goals as goal

pub returns-in_err-fact-clause-refused : goal.returns-in_err-fact-clause-refused
returns-in_err-fact-clause-refused c =
    let e = c.in_err-fact.field-0.0 in
    let p = err_from_is_err_and c.from_residual.result c.from_residual.ensures.1 in
    rw (p.1, p.2) (step_nameless c.args.names.now c.args.before.now c.args.step.now c.deref.result.now e c.deref.ensures.value c.in_err-fact.ensures.refused)
