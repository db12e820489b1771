-- What the refusals of the crates below become, and what is printed of a refusal.
use Rattle.std.specs.Prelude.{◌≡◌, List, [], ◌∷◌, ◌++◌, Option, Some, None, codes}
use Rattle.std.specs.Fmt.{decimal, option_append}
use Rattle.std.specs.IoError.{error_kind}
use Rattle.std.specs.declared.io.Error as io
use Rattle.std.specs.declared.io.ErrorKind.TheVariants as io_kinds
use Rattle.krates_cm.specs.Document.{Text, texts_view}
use Rattle.krates_certificate.specs.CertificateRefusals.{IsMemory, fault_of}
use Rattle.krates_certificate.specs.contracts.certificate_error.CertificateErrorDisplay.TheImpl.{ghosts as certificate_display}
use Rattle.krates_certificate.specs.declared.certificate_error.CertificateError.{CertificateError}
use Rattle.krates_checkers.specs.declared.check_error.CheckError.{CheckError}
use Rattle.krates_checkers.specs.declared.check_error.CheckError.TheVariants as causes
use Rattle.krates_shown.specs.Shown.{shown_text}
use Rattle.krates_verdict.specs.declared.refusal.Refusal.{Refusal}
use Rattle.krates_verdict.specs.declared.refusal.Refusal.TheVariants as refusals

-- ---- what a refusal of a crate below becomes: out of memory stays out of memory

abbrev pub CertificateErrorBecomes : CertificateError → Refusal → Type 0
CertificateErrorBecomes cause (refusals.Certificate same) = (same ≡ cause) × (IsMemory (fault_of cause) → ⊥)
CertificateErrorBecomes cause refusals.Memory = IsMemory (fault_of cause)
CertificateErrorBecomes cause _ = ⊥

abbrev pub CheckErrorBecomes : CheckError → Refusal → Type 0
CheckErrorBecomes cause (refusals.Check same) = (same ≡ cause) × (cause ≡ causes.Memory → ⊥)
CheckErrorBecomes cause refusals.Memory = cause ≡ causes.Memory
CheckErrorBecomes cause _ = ⊥

abbrev pub ReadErrorBecomes : io.Error → Refusal → Type 0
ReadErrorBecomes cause (refusals.Read same) = (same ≡ cause) × (error_kind cause ≡ io_kinds.OutOfMemory → ⊥)
ReadErrorBecomes cause refusals.Memory = error_kind cause ≡ io_kinds.OutOfMemory
ReadErrorBecomes cause _ = ⊥

-- ---- what is printed

-- words as they are shown, each after a space
abbrev pub behind_blanks : List Text → Text
behind_blanks [] = []
behind_blanks (word ∷ words) = codes " " ++ (shown_text word ++ behind_blanks words)

-- the words of a setting, after a space
abbrev pub words_text : List Text → Text
words_text [] = codes " no options"
words_text (word ∷ words) = behind_blanks (word ∷ words)

-- why a checker refuses a certificate
abbrev pub check_text : CheckError → Text
check_text causes.Document = codes "the document has no resolved graph, or an id that can't be read or stands twice"
check_text causes.Empty = codes "the derivation has no step"
check_text (causes.Step number) = codes "step " ++ (decimal number ++ codes " does not follow")
check_text causes.Memory = codes "out of memory"
check_text causes.Open = codes "something follows from the facts and isn't among them"

-- What is printed of a refusal, where that is stated: what the system prints of a failed call isn't.
abbrev pub refusal_text : Refusal → Option Text
refusal_text (refusals.Read cause) = None
refusal_text refusals.Utf8 = Some (codes "the certificate is not UTF-8")
refusal_text (refusals.Certificate cause) = option_append (Some (codes "this is no certificate: ")) (certificate_display.output cause)
refusal_text (refusals.Setting claimed) = Some (codes "the certificate is of another setting:" ++ words_text (texts_view claimed))
refusal_text (refusals.Check cause) = Some (check_text cause)
refusal_text (refusals.Write cause) = None
refusal_text refusals.Memory = Some (codes "out of memory")
