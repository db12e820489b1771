use Rattle.std.proofs.Common.{List, arith, map, subst}
use Rattle.std.proofs.lemmas.Result.{err_from_is_err_and}
use Rattle.krates_build_certificate.specs.BuildCertificateViews.{step_told}
use Rattle.krates_build_facts.specs.Steps.{step_view}
use Rattle.krates_build_facts.specs.declared.steps.BuildStep.{BuildStep}
use Rattle.krates_build_verdict.specs.ClaimRefusals.{StepRefusal}
use Rattle.krates_build_verdict.specs.NamedClaims.{NamesStep}
use Rattle.krates_build_verdict.proofs.NamedClaims.{no_steps, steps_fail, steps_more}
use Rattle.krates_build_verdict.proofs.claim.steps_of.Goals as goal

pub loop-step-init : goal.loop-step-init
loop-step-init c =
    let h = no_steps c.args.names.now c.args.named.now c.new-steps.result.items c.new-steps.ensures.items in
    record { counted = h.0; so_far = h.1 }

pub loop-step-preserved : goal.loop-step-preserved
loop-step-preserved c =
    let l = c.loop-step in
    let n = c.args.names.now in
    let s = c.in_ok-step_of.field-0 in
    let x = c.step-item in
    let named = subst (λ (made : List BuildStep). NamesStep n (map step_view made) (step_told x.result) (step_view s)) c.deref.ensures.value c.in_ok-step_of.ensures.named in
    let h = steps_more n c.args.named.now l.step-index x.result l.steps.items c.push.new.self.items s (omega arith) x.is c.in_ok-push.ensures.items l.invariant.counted l.invariant.so_far named in
    record { counted = h.0; so_far = h.1 }

pub returns-in_err-step_of-clause-refused : goal.returns-in_err-step_of-clause-refused
returns-in_err-step_of-clause-refused c =
    let l = c.loop-step in
    let n = c.args.names.now in
    let e = c.in_err-step_of.field-0.0 in
    let x = c.step-item in
    let refused = subst (λ (made : List BuildStep). StepRefusal n (map step_view made) (step_told x.result) e) c.deref.ensures.value c.in_err-step_of.ensures.refused in
    let p = err_from_is_err_and c.from_residual.result c.from_residual.ensures.1 in
    rw (p.1, p.2) (steps_fail n c.args.named.now l.step-index x.result (map step_view l.steps.items) e (omega arith) x.is l.invariant.counted l.invariant.so_far refused)
