use Rattle.std.proofs.Common.{◌≡◌, List, Global, String, map, subst}
use Rattle.std.proofs.lemmas.Result.{IfErr-weaker, err_from_is_err_and, on_ok_weaker}
use Rattle.std.specs.List.{AllZip}
use Rattle.krates_cm.specs.Document.{text_view}
use Rattle.krates_units.specs.BuildSetting.{build_setting_view}
use Rattle.krates_words.specs.BuildSettingWords.{words_of_build}
use Rattle.krates_build_certificate.specs.BuildCertificateViews.{certificate_told, machine_told}
use Rattle.krates_build_certificate.specs.declared.machine_text.MachineText.{MachineText}
use Rattle.krates_build_verdict.specs.SameBuild.{Describes, MachinesRefusal, OtherWords, machines_asked}
use Rattle.krates_build_verdict.proofs.SameBuild.{other_machines, other_words}
use Rattle.krates_build_verdict.proofs.machines.expect_build.Goals as goal

pub returns-in_err-expect_words-clause-refused : goal.returns-in_err-expect_words-clause-refused
returns-in_err-expect_words-clause-refused c =
    let s = build_setting_view c.args.setting.now in
    let e = c.in_err-expect_words.field-0.0 in
    let refused = subst (λ (words : List (String Global)). OtherWords s (map text_view words) e) c.deref.ensures.value c.in_err-expect_words.ensures.refused in
    let p = err_from_is_err_and c.from_residual.result c.from_residual.ensures.1 in
    rw (p.1, p.2) (other_words s (certificate_told c.args.certificate.now) e refused)

pub returns-clause-of_build : goal.returns-clause-of_build
returns-clause-of_build c =
    let s = build_setting_view c.args.setting.now in
    let words = subst (λ (words : List (String Global)). map text_view words ≡ words_of_build s) c.deref.ensures.value c.in_ok-expect_words.ensures.words in
    on_ok_weaker c.expect_machines.result (λ h. record {
      words = words;
      machines = subst (λ (texts : List MachineText). AllZip Describes (map machine_told texts) (machines_asked s)) c.deref-2.ensures.value h;
    }) c.expect_machines.ensures.described

pub returns-clause-refused : goal.returns-clause-refused
returns-clause-refused c =
    let s = build_setting_view c.args.setting.now in
    let words = subst (λ (words : List (String Global)). map text_view words ≡ words_of_build s) c.deref.ensures.value c.in_ok-expect_words.ensures.words in
    IfErr-weaker c.expect_machines.result _ _ (λ e h. other_machines s (certificate_told c.args.certificate.now) e words
    (subst (λ (texts : List MachineText). MachinesRefusal (map machine_told texts) (machines_asked s) e) c.deref-2.ensures.value h)) c.expect_machines.ensures.refused
