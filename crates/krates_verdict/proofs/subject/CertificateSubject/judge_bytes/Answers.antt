use Rattle.std.proofs.Common.{subst}
use Rattle.std.proofs.lemmas.Result.{IfOk-weaker, err_from_is_err_and}
use Rattle.krates_cm.specs.Document.{Text}
use Rattle.krates_certificate.specs.CertificateTables.{IsCertificateText}
use Rattle.krates_certificate.specs.CertificateViews.{certificate_told}
use Rattle.krates_verdict.specs.Subject.{subject_view}
use Rattle.krates_verdict.proofs.RunLemmas.{bytes_refused, no_certificate}
use Rattle.krates_verdict.proofs.subject.CertificateSubject.judge_bytes.Goals as goal

pub returns-in_err-certificate-clause-refused : goal.returns-in_err-certificate-clause-refused
returns-in_err-certificate-clause-refused c =
    let text = c.in-Ok.ensures.cases in
    let p = err_from_is_err_and c.from_residual.result c.from_residual.ensures.1 in
    rw p.1 (no_certificate (subject_view c.args.self.now) c.in-Ok.text.now c.args.certificate.now c.in_err-certificate.field-0.0 p.0 text.1 text.0 c.in_err-certificate.ensures p.2)

pub returns-clause-holds : goal.returns-clause-holds
returns-clause-holds c =
    let text = c.in-Ok.ensures.cases in
    let certificate = c.in_ok-certificate.certificate in
    let reads = subst (λ (t : Text). IsCertificateText t (certificate_told certificate)) text.0 c.in_ok-certificate.ensures in
    IfOk-weaker c.judge.result _ _ (λ verdict h. record { is_text = text.1; certificate = certificate; reads = reads; so = h }) c.judge.ensures.holds

pub returns-clause-refused : goal.returns-clause-refused
returns-clause-refused c =
    let text = c.in-Ok.ensures.cases in
    let certificate = c.in_ok-certificate.certificate in
    let reads = subst (λ (t : Text). IsCertificateText t (certificate_told certificate)) text.0 c.in_ok-certificate.ensures in
    bytes_refused (subject_view c.args.self.now) c.args.certificate.now certificate c.judge.result text.1 reads c.judge.ensures.refused
