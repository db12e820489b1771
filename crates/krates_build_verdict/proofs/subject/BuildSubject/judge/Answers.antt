use Rattle.std.proofs.Common.{Global, IfErr, IfOk, List, String, map, subst}
use Rattle.std.specs.Global.{Vec}
use Rattle.krates_cm.specs.Document.{texts_view}
use Rattle.krates_build_certificate.specs.BuildCertificateViews.{step_told, told_closed, told_steps}
use Rattle.krates_build_certificate.specs.declared.step.NamedStep.{NamedStep}
use Rattle.krates_build_verdict.specs.ClaimRefusals.{ClaimRefusal}
use Rattle.krates_build_verdict.specs.SaidClaims.{ClaimSays}
use Rattle.krates_build_verdict.proofs.subject.BuildSubject.judge.Goals as goal

pub returns-in-Steps-clause-says : goal.returns-in-Steps-clause-says
returns-in-Steps-clause-says c =
    rw c.in-Steps.is (subst (λ (xs : List NamedStep). IfOk c.judge_steps.result (ClaimSays c.args.self.now (told_steps (map step_told xs)))) c.deref.ensures.value c.judge_steps.ensures.says)

pub returns-in-Steps-clause-refused : goal.returns-in-Steps-clause-refused
returns-in-Steps-clause-refused c =
    rw c.in-Steps.is (subst (λ (xs : List NamedStep). IfErr c.judge_steps.result (ClaimRefusal c.args.self.now (told_steps (map step_told xs)))) c.deref.ensures.value c.judge_steps.ensures.refused)

pub returns-in-Closed-clause-says : goal.returns-in-Closed-clause-says
returns-in-Closed-clause-says c =
    rw c.in-Closed.is (subst (λ (xs : List (Vec (String Global))). IfOk c.judge_closed.result (ClaimSays c.args.self.now (told_closed (map texts_view xs)))) c.deref-in-Closed.ensures.value c.judge_closed.ensures.says)

pub returns-in-Closed-clause-refused : goal.returns-in-Closed-clause-refused
returns-in-Closed-clause-refused c =
    rw c.in-Closed.is (subst (λ (xs : List (Vec (String Global))). IfErr c.judge_closed.result (ClaimRefusal c.args.self.now (told_closed (map texts_view xs)))) c.deref-in-Closed.ensures.value c.judge_closed.ensures.refused)
