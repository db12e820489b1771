-- What refusals of the crates below become: out of memory stays out of memory.
use Rattle.std.specs.Prelude.{◌≡◌, ⊤}
use Rattle.krates_cm.specs.declared.read_error.ReadError.TheVariants as read_errors
use Rattle.krates_ids.specs.declared.error.Error as ids
use Rattle.krates_ids.specs.declared.error.Error.TheVariants as errors
use Rattle.krates_build_certificate.specs.declared.certificate_error.BuildCertificateError.{BuildCertificateError}
use Rattle.krates_build_certificate.specs.declared.certificate_error.BuildCertificateError.TheVariants as texts
use Rattle.krates_build_checkers.specs.declared.build_check_error.BuildCheckError.{BuildCheckError}
use Rattle.krates_build_checkers.specs.declared.build_check_error.BuildCheckError.TheVariants as causes
use Rattle.krates_build_verdict.specs.declared.refusal.BuildRefusal.{BuildRefusal}
use Rattle.krates_build_verdict.specs.declared.refusal.BuildRefusal.TheVariants as refusals

-- why a text isn't read
abbrev pub TextErrorBecomes : BuildCertificateError → BuildRefusal → Type 0
TextErrorBecomes cause (refusals.Certificate same) = (same ≡ cause) × ¬ cause ≡ texts.Read read_errors.Memory
TextErrorBecomes cause refusals.Memory = cause ≡ texts.Read read_errors.Memory
TextErrorBecomes cause _ = ⊥

-- why a checker says no
abbrev pub ObjectionBecomes : BuildCheckError → BuildRefusal → Type 0
ObjectionBecomes cause (refusals.Check same) = (same ≡ cause) × ¬ cause ≡ causes.Memory
ObjectionBecomes cause refusals.Memory = cause ≡ causes.Memory
ObjectionBecomes cause _ = ⊥

-- why a document isn't admitted
abbrev pub DocumentErrorBecomes : ids.Error → BuildRefusal → Type 0
DocumentErrorBecomes cause (refusals.Document same) = (same ≡ cause) × ¬ cause ≡ errors.Memory
DocumentErrorBecomes cause refusals.Memory = cause ≡ errors.Memory
DocumentErrorBecomes cause _ = ⊥

-- the refusal has the text of a request; memory may run out instead
abbrev pub HasRequestText : BuildRefusal → Type 0
HasRequestText (refusals.Unanswered text) = ⊤
HasRequestText refusals.Memory = ⊤
HasRequestText _ = ⊥
