use Rattle.std.proofs.Common.{subst}
use Rattle.std.proofs.lemmas.Result.{err_from_is_err_and}
use Rattle.krates_cm.specs.Document.{MetadataModel, metadata_view}
use Rattle.krates_checkers.specs.CheckRefusals.{IsClosedRefused}
use Rattle.krates_rules.specs.Checks.{IsClosedFor}
use Rattle.krates_rules.specs.Setting.{SettingModel}
use Rattle.krates_rules.specs.StepViews.{facts_view}
use Rattle.krates_verdict.specs.VerdictRefusals.{IsObjection}
use Rattle.krates_verdict.proofs.JudgeLemmas.{as_given, objects}
use Rattle.krates_verdict.proofs.subject.CertificateSubject.expect_closed.Goals as goal

pub returns-clause-closed : goal.returns-clause-closed
returns-clause-closed c =
    let m = metadata_view c.args.self.now.metadata.now in
    let facts = facts_view c.args.facts.now in
    subst (λ (s : SettingModel). IsClosedFor m s facts) c.setting.ensures (as_given m (λ (seen : MetadataModel). IsClosedFor seen c.setting.result.now facts) c.in_ok-check_closed.ensures.closed)

pub returns-in_err-check_closed-clause-refused : goal.returns-in_err-check_closed-clause-refused
returns-in_err-check_closed-clause-refused c =
    let m = metadata_view c.args.self.now.metadata.now in
    let facts = facts_view c.args.facts.now in
    let p = err_from_is_err_and c.from_residual.result c.from_residual.ensures.1 in
    rw p.1 (subst (λ (s : SettingModel). IsObjection (IsClosedRefused m s facts) p.0) c.setting.ensures
    (objects m (λ (seen : MetadataModel). IsClosedRefused seen c.setting.result.now facts) c.in_err-check_closed.field-0.0 p.0 c.in_err-check_closed.ensures.refused p.2))
