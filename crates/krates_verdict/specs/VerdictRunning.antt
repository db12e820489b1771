-- What a run reads, what it then writes, and why it writes nothing.
use Rattle.std.specs.Prelude.{◌≡◌, IfSome, IsUtf8, Option, ⊤}
use Rattle.std.specs.Io.KnownBytes.{Appends}
use Rattle.krates_cm.specs.Document.{MetadataModel, Text}
use Rattle.krates_certificate.specs.CertificateRefusals.{fault_of}
use Rattle.krates_certificate.specs.CertificateTables.{IsCertificateText, TextFault}
use Rattle.krates_certificate.specs.CertificateViews.{certificate_told}
use Rattle.krates_certificate.specs.declared.certificate.Certificate.{Certificate}
use Rattle.krates_words.specs.declared.choice.Choice.{Choice}
use Rattle.krates_verdict.specs.Holding.{Holds}
use Rattle.krates_verdict.specs.VerdictRefusals.{JudgeRefusal}
use Rattle.krates_verdict.specs.Subject.{IsSubjectOf, SubjectModel}
use Rattle.krates_verdict.specs.VerdictText.{verdict_line}
use Rattle.krates_verdict.specs.declared.refusal.Refusal.{Refusal}
use Rattle.krates_verdict.specs.declared.refusal.Refusal.TheVariants as refusals
use Rattle.krates_verdict.specs.declared.verdict.Verdict.{Verdict}

-- ---- of bytes

-- The bytes are a text that reads as a certificate, and this holds of it.
pub record IsOfCertificate (bytes : Text) (P : Certificate → Type 0) : Type 0 where
  pub is_text : IsUtf8 bytes
  pub certificate : Certificate
  pub reads : IsCertificateText bytes (certificate_told certificate)
  pub so : P certificate

-- They are a certificate that holds, and this is what it says.
abbrev pub IsVerdictOf : SubjectModel → Text → Verdict → Type 0
IsVerdictOf s bytes verdict = IsOfCertificate bytes (λ c. Holds s c verdict)

-- Why these bytes have no verdict: the first class that is true of them counts. Memory may always run out.
abbrev pub IsUnheld : SubjectModel → Text → Refusal → Type 0
IsUnheld s bytes refusals.Utf8 = IsUtf8 bytes → ⊥
IsUnheld s bytes (refusals.Certificate cause) = IsUtf8 bytes × TextFault bytes (fault_of cause)
IsUnheld s bytes (refusals.Setting claimed) = IsOfCertificate bytes (λ c. JudgeRefusal s c (refusals.Setting claimed))
IsUnheld s bytes (refusals.Check cause) = IsOfCertificate bytes (λ c. JudgeRefusal s c (refusals.Check cause))
IsUnheld s bytes refusals.Memory = ⊤
IsUnheld s bytes _ = ⊥

-- Why they have no verdict that is written: the reader or the writer may always fail, too.
abbrev pub IsRefusalOf : SubjectModel → Text → Refusal → Type 0
IsRefusalOf s bytes (refusals.Read cause) = ⊤
IsRefusalOf s bytes (refusals.Write cause) = (verdict : Verdict) × IsVerdictOf s bytes verdict
IsRefusalOf s bytes cause = IsUnheld s bytes cause

-- ---- of a reader and a writer

-- This holds of the bytes that were read, which are all that the reader had left, where these were known.
pub record OfAllRead (left : Option Text) (P : Text → Type 0) : Type 0 where
  pub bytes : Text
  pub all : IfSome left (λ known. bytes ≡ known)
  pub so : P bytes

-- What was read is a certificate that holds, and the line that says so is what was added to the known bytes of the writer.
pub record WritesVerdict (s : SubjectModel) (left old new : Option Text) : Type 0 where
  pub verdict : Verdict
  pub is : OfAllRead left (λ bytes. IsVerdictOf s bytes verdict)
  pub appended : Appends old new (verdict_line verdict)

-- What was read has no verdict that is written, for this reason.
abbrev pub RunRefusal : SubjectModel → Option Text → Refusal → Type 0
RunRefusal s left cause = OfAllRead left (λ bytes. IsRefusalOf s bytes cause)

-- ---- under what a command line chooses

-- This holds of what a certificate is judged against: the document, under the setting that the choice means, by its words.
abbrev pub OfChoice : Choice → MetadataModel → (SubjectModel → Type 0) → Type 0
OfChoice c m P = (s : SubjectModel) × IsSubjectOf c m s × P s

-- Why no verdict was written then. Memory may run out before the words are made.
abbrev pub ChosenRefusal : Choice → MetadataModel → Option Text → Refusal → Type 0
ChosenRefusal c m left refusals.Memory = ⊤
ChosenRefusal c m left cause = OfChoice c m (λ s. RunRefusal s left cause)

-- ---- what is left, and whose the cause is

-- the writer is as it was, unless it failed
abbrev pub Leaves : {W : Type 0} → W → W → Refusal → Type 0
Leaves old new (refusals.Write cause) = ⊤
Leaves old new _ = new ≡ old

-- the cause isn't the certificate's: the reader or the writer failed, or memory ran out
abbrev pub IsOutside : Refusal → Type 0
IsOutside (refusals.Read cause) = ⊤
IsOutside (refusals.Write cause) = ⊤
IsOutside refusals.Memory = ⊤
IsOutside _ = ⊥
