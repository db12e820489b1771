use Rattle.std.proofs.Common.{subst}
use Rattle.std.proofs.lemmas.Result.{err_from_is_err_and}
use Rattle.krates_cm.specs.Document.{Text, metadata_view}
use Rattle.krates_units.specs.BuildSetting.{build_setting_view}
use Rattle.krates_build_certificate.specs.BuildCertificateTexts.{IsCertificateText}
use Rattle.krates_build_certificate.specs.BuildCertificateViews.{certificate_told}
use Rattle.krates_build_verdict.specs.JudgedBytes.{ReadsAsOne}
use Rattle.krates_build_verdict.specs.SameBuild.{IsOfBuild}
use Rattle.krates_build_verdict.proofs.JudgedBytes.{bytes_of_other, bytes_unadmitted, bytes_unanswered, bytes_unread, bytes_unsaid}
use Rattle.krates_build_verdict.proofs.judging.judge_bytes.Goals as goal

pub returns-in_err-certificate-clause-refused : goal.returns-in_err-certificate-clause-refused
returns-in_err-certificate-clause-refused c =
    let text = c.in-Ok.ensures.cases in
    let p = err_from_is_err_and c.from_residual.result c.from_residual.ensures.1 in
    rw p.1 (bytes_unread (metadata_view c.args.metadata.now) (build_setting_view c.args.setting.now) c.in-Ok.text.now c.args.certificate.now c.in_err-certificate.field-0.0 p.0 text.1 text.0 c.in_err-certificate.ensures.refused p.2)

pub returns-in_err-expect_build-clause-refused : goal.returns-in_err-expect_build-clause-refused
returns-in_err-expect_build-clause-refused c =
    let text = c.in-Ok.ensures.cases in
    let told = certificate_told c.in_ok-certificate.certificate in
    let reads = subst (λ (t : Text). IsCertificateText t told) text.0 c.in_ok-certificate.ensures.read in
    let e = c.in_err-expect_build.field-0.0 in
    let p = err_from_is_err_and c.from_residual-in_err-expect_build.result c.from_residual-in_err-expect_build.ensures.1 in
    rw (p.1, p.2) (bytes_of_other (metadata_view c.args.metadata.now) (build_setting_view c.args.setting.now) c.args.certificate.now told e text.1 reads c.in_err-expect_build.ensures.refused)

pub returns-in_err-ids-clause-refused : goal.returns-in_err-ids-clause-refused
returns-in_err-ids-clause-refused c =
    let text = c.in-Ok.ensures.cases in
    let told = certificate_told c.in_ok-certificate.certificate in
    let reads = subst (λ (t : Text). IsCertificateText t told) text.0 c.in_ok-certificate.ensures.read in
    let one : ReadsAsOne c.args.certificate.now (IsOfBuild (build_setting_view c.args.setting.now)) = record { is_text = text.1; told = told; reads = reads; so = c.in_ok-expect_build.ensures.of_build } in
    let p = err_from_is_err_and c.from_residual-in_err-ids.result c.from_residual-in_err-ids.ensures.1 in
    rw p.1 (bytes_unadmitted (metadata_view c.args.metadata.now) (build_setting_view c.args.setting.now) c.args.certificate.now c.in_err-ids.field-0.0 p.0 one c.in_err-ids.ensures.refused p.2)

pub returns-in_err-subject-clause-refused : goal.returns-in_err-subject-clause-refused
returns-in_err-subject-clause-refused c =
    let text = c.in-Ok.ensures.cases in
    let told = certificate_told c.in_ok-certificate.certificate in
    let reads = subst (λ (t : Text). IsCertificateText t told) text.0 c.in_ok-certificate.ensures.read in
    let one : ReadsAsOne c.args.certificate.now (IsOfBuild (build_setting_view c.args.setting.now)) = record { is_text = text.1; told = told; reads = reads; so = c.in_ok-expect_build.ensures.of_build } in
    let e = c.in_err-subject.field-0.0 in
    let p = err_from_is_err_and c.from_residual-in_err-subject.result c.from_residual-in_err-subject.ensures.1 in
    rw (p.1, p.2) (bytes_unanswered (metadata_view c.args.metadata.now) (build_setting_view c.args.setting.now) c.args.certificate.now c.in_ok-document.document e one c.in_ok-document.ensures c.in_err-subject.ensures.refused)

pub returns-in_err-verdict-clause-refused : goal.returns-in_err-verdict-clause-refused
returns-in_err-verdict-clause-refused c =
    let text = c.in-Ok.ensures.cases in
    let told = certificate_told c.in_ok-certificate.certificate in
    let reads = subst (λ (t : Text). IsCertificateText t told) text.0 c.in_ok-certificate.ensures.read in
    let e = c.in_err-verdict.field-0.0 in
    let p = err_from_is_err_and c.from_residual-in_err-verdict.result c.from_residual-in_err-verdict.ensures.1 in
    rw (p.1, p.2) (bytes_unsaid (metadata_view c.args.metadata.now) (build_setting_view c.args.setting.now) c.args.certificate.now e record {
      is_text = text.1;
      told = told;
      reads = reads;
      so = (
        c.in_ok-expect_build.ensures.of_build,
        record {
          document = c.in_ok-document.document;
          of_metadata = c.in_ok-document.ensures;
          subject = c.in_ok-subject.subject;
          of_build = c.in_ok-subject.ensures.made;
          so = c.in_err-verdict.ensures.refused;
        },
      );
    })

pub returns-clause-held : goal.returns-clause-held
returns-clause-held c =
    let text = c.in-Ok.ensures.cases in
    let told = certificate_told c.in_ok-certificate.certificate in
    let reads = subst (λ (t : Text). IsCertificateText t told) text.0 c.in_ok-certificate.ensures.read in
    record {
      is_text = text.1;
      told = told;
      reads = reads;
      so = (
        c.in_ok-expect_build.ensures.of_build,
        record {
          document = c.in_ok-document.document;
          of_metadata = c.in_ok-document.ensures;
          subject = c.in_ok-subject.subject;
          of_build = c.in_ok-subject.ensures.made;
          so = record { verdict = c.in_ok-verdict.verdict; says = c.in_ok-verdict.ensures.says; holds = c.in_ok-verdict.ensures.holds };
        },
      );
    }
