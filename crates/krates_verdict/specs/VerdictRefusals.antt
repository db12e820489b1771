-- Why a certificate isn't found to hold. Each cause is true; memory may always run out.
use Rattle.std.specs.Prelude.{◌≡◌, List, ⊤}
use Rattle.std.specs.declared.io.Error as io
use Rattle.krates_cm.specs.Document.{Text, texts_view}
use Rattle.krates_certificate.specs.declared.certificate.Certificate.{Certificate}
use Rattle.krates_certificate.specs.declared.certificate.Certificate.TheVariants as certificates
use Rattle.krates_checkers.specs.CheckRefusals.{IsCheckRefused, IsClosedRefused}
use Rattle.krates_checkers.specs.declared.check_error.CheckError.{CheckError}
use Rattle.krates_checkers.specs.declared.check_error.CheckError.TheVariants as causes
use Rattle.krates_rules.specs.StepViews.{facts_view, steps_view}
use Rattle.krates_verdict.specs.Holding.{words_of}
use Rattle.krates_verdict.specs.RefusalText.{ReadErrorBecomes}
use Rattle.krates_verdict.specs.Subject.{SubjectModel}
use Rattle.krates_verdict.specs.declared.refusal.Refusal.{Refusal}
use Rattle.krates_verdict.specs.declared.refusal.Refusal.TheVariants as refusals

-- the words aren't those of the setting, and they are named
abbrev pub IsOtherSetting : SubjectModel → List Text → Refusal → Type 0
IsOtherSetting s words (refusals.Setting claimed) = (texts_view claimed ≡ words) × (words ≡ s.words → ⊥)
IsOtherSetting s words _ = ⊥

-- a checker says no for this reason, which isn't that memory ran out, since that is a refusal of its own
abbrev pub IsObjection : (CheckError → Type 0) → Refusal → Type 0
IsObjection IsCause (refusals.Check cause) = IsCause cause × (cause ≡ causes.Memory → ⊥)
IsObjection IsCause refusals.Memory = ⊤
IsObjection IsCause _ = ⊥

-- why the checker of what a certificate has says no
abbrev pub IsCheckedNot : SubjectModel → Certificate → CheckError → Type 0
IsCheckedNot s (certificates.Derivation words derivation) = IsCheckRefused s.metadata s.setting (steps_view derivation.steps.items)
IsCheckedNot s (certificates.Closed words listed) = IsClosedRefused s.metadata s.setting (facts_view listed.items)

-- Why a certificate has no verdict: it is of another setting, or the checker says no.
abbrev pub JudgeRefusal : SubjectModel → Certificate → Refusal → Type 0
JudgeRefusal s certificate (refusals.Setting claimed) = IsOtherSetting s (words_of certificate) (refusals.Setting claimed)
JudgeRefusal s certificate (refusals.Check cause) =
    (words_of certificate ≡ s.words) × IsObjection (IsCheckedNot s certificate) (refusals.Check cause)
JudgeRefusal s certificate refusals.Memory = ⊤
JudgeRefusal s certificate _ = ⊥

-- the refusal of a run whose reader failed: what one of its errors becomes
abbrev pub IsOfReader : Refusal → Type 0
IsOfReader e = (cause : io.Error) × ReadErrorBecomes cause e
