use Rattle.std.proofs.Common.{subst}
use Rattle.std.proofs.lemmas.Result.{err_from_is_err_and}
use Rattle.krates_cm.specs.Document.{MetadataModel, metadata_view}
use Rattle.krates_checkers.specs.CheckRefusals.{IsCheckRefused}
use Rattle.krates_rules.specs.Checks.{IsAcceptedFor}
use Rattle.krates_rules.specs.Setting.{SettingModel}
use Rattle.krates_rules.specs.StepViews.{steps_view}
use Rattle.krates_verdict.specs.VerdictRefusals.{IsObjection}
use Rattle.krates_verdict.proofs.JudgeLemmas.{as_given, objects}
use Rattle.krates_verdict.proofs.subject.CertificateSubject.expect_steps.Goals as goal

pub returns-clause-accepted : goal.returns-clause-accepted
returns-clause-accepted c =
    let m = metadata_view c.args.self.now.metadata.now in
    let steps = steps_view c.args.derivation.now.steps.items in
    subst (λ (s : SettingModel). IsAcceptedFor m s steps) c.setting.ensures (as_given m (λ (seen : MetadataModel). IsAcceptedFor seen c.setting.result.now steps) c.in_ok-check.ensures.accepted)

pub returns-in_err-check-clause-refused : goal.returns-in_err-check-clause-refused
returns-in_err-check-clause-refused c =
    let m = metadata_view c.args.self.now.metadata.now in
    let steps = steps_view c.args.derivation.now.steps.items in
    let p = err_from_is_err_and c.from_residual.result c.from_residual.ensures.1 in
    rw p.1 (subst (λ (s : SettingModel). IsObjection (IsCheckRefused m s steps) p.0) c.setting.ensures
    (objects m (λ (seen : MetadataModel). IsCheckRefused seen c.setting.result.now steps) c.in_err-check.field-0.0 p.0 c.in_err-check.ensures.refused p.2))
