-- Which texts are certificates, and why others aren't read.
use Rattle.std.specs.Prelude.{◌≡◌, ◌⊎◌, [], Some, None}
use Rattle.serde_json.specs.Data.{Data}
use Rattle.serde_json.specs.Errors.{IsMemory}
use Rattle.serde_json.specs.Read.{read}
use Rattle.serde_json.specs.declared.error.Error as json
use Rattle.krates_cm.specs.Document.{Text}
use Rattle.krates_cm.specs.declared.read_error.ReadError.TheVariants as read_errors
use Rattle.krates_cm_json.specs.Faults.{fault_of}
use Rattle.krates_build_certificate.specs.BuildCertificateTables.{certificate}
use Rattle.krates_build_certificate.specs.BuildCertificateViews.{ToldCertificate}
use Rattle.krates_build_certificate.specs.declared.certificate_error.BuildCertificateError.{BuildCertificateError}
use Rattle.krates_build_certificate.specs.declared.certificate_error.BuildCertificateError.TheVariants as errors

-- the text is JSON, and this is what the tables read from it
abbrev pub IsCertificateText : Text → ToldCertificate → Type 0
IsCertificateText s m = (d : Data) × (read s ≡ Some d) × ((certificate [] d).value ≡ Some m)

-- the text isn't JSON, or its data isn't a certificate, by a fault that is true of it; or memory ran out
abbrev pub IsTextRefusal : Text → BuildCertificateError → Type 0
IsTextRefusal s (errors.NotJson line column) = read s ≡ None
IsTextRefusal s (errors.Read e) = (e ≡ read_errors.Memory)
    ⊎ ((d : Data) × (read s ≡ Some d) × ((certificate [] d).value ≡ None) × (certificate [] d).IsFault (fault_of e))

-- what a JSON error becomes
abbrev pub JsonBecomes : json.Error → BuildCertificateError → Type 0
JsonBecomes cause (errors.NotJson line column) = IsMemory cause → ⊥
JsonBecomes cause (errors.Read e) = (e ≡ read_errors.Memory) × IsMemory cause
