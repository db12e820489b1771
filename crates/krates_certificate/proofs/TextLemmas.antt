-- A certificate is read from its text as from the text's data.
use Rattle.std.proofs.Common.{◌≡◌, ◌⊎◌, inl, inr, Some, Result, Ok, Err}
use Rattle.serde_json.specs.Data.{Data}
use Rattle.serde_json.specs.Read as json
use Rattle.krates_cm.specs.Document.{Text}
use Rattle.krates_certificate.specs.CertificateRefusals.{Gives, IsMemory, fault_of}
use Rattle.krates_certificate.specs.CertificateTables.{IsCertificate, IsNoCertificate, CertificateFault, IsCertificateText, TextFault, in_data}
use Rattle.krates_certificate.specs.CertificateViews.{certificate_told}
use Rattle.krates_certificate.proofs.NeverBoth.{never_certificate}
use Rattle.krates_certificate.specs.declared.certificate.Certificate.{Certificate}
use Rattle.krates_certificate.specs.declared.certificate_error.CertificateError.{CertificateError}

pub of_data : (s : Text) (d : Data) (r : Result Certificate CertificateError) → json.read s ≡ Some d
    → Gives certificate_told (λ m. IsCertificate m d) (CertificateFault d) r → Gives certificate_told (IsCertificateText s) (TextFault s) r
of_data s d (Ok x) is h = (d, is, h)
of_data s d (Err e) is (inl memory) = inl memory
of_data s d (Err e) is (inr wrong) = inr (in_data d is wrong)

-- unless memory ran out, data from which no certificate is read isn't one
pub none_read : (d : Data) (e : CertificateError) → IsMemory (fault_of e) ⊎ CertificateFault d (fault_of e) → (IsMemory (fault_of e) → ⊥) → IsNoCertificate d
none_read d e (inl memory) other = absurd (other memory)
none_read d e (inr wrong) other = λ m is. never_certificate m d (fault_of e) is wrong
