-- What the bytes of a certificate say of a document and a build, and why they say nothing.
use Rattle.std.specs.Prelude.{◌≡◌, ⊤, IsUtf8, Some, map}
use Rattle.krates_cm.specs.Document.{MetadataModel, Text}
use Rattle.krates_cm.specs.declared.read_error.ReadError.TheVariants as read_errors
use Rattle.krates_ids.specs.declared.error.Error.TheVariants as errors
use Rattle.krates_questions.specs.Lookup.{IsDocumentOf, resolved_view}
use Rattle.krates_questions.specs.declared.lookup.Lookup.{Lookup}
use Rattle.krates_rules.specs.AdmissionRefusals.{AdmissionRefusal}
use Rattle.krates_rules.specs.Resolved.{Resolved, id_of}
use Rattle.krates_units.specs.Answered.{IsAnswered}
use Rattle.krates_units.specs.BuildSetting.{BuildSettingModel}
use Rattle.krates_build_certificate.specs.BuildCertificateTexts.{IsCertificateText, IsTextRefusal}
use Rattle.krates_build_certificate.specs.BuildCertificateViews.{ToldCertificate}
use Rattle.krates_build_certificate.specs.declared.certificate_error.BuildCertificateError.TheVariants as texts
use Rattle.krates_build_tables.specs.CrateParts.{AreTablesOf}
use Rattle.krates_build_tables.specs.Unanswered.{TellsUnanswered}
use Rattle.krates_build_tables.specs.declared.unanswered.Unanswered.{Unanswered}
use Rattle.krates_build_verdict.specs.BuildVerdicts.{Holds}
use Rattle.krates_build_verdict.specs.ClaimRefusals.{ClaimRefusal}
use Rattle.krates_build_verdict.specs.SaidClaims.{ClaimSays}
use Rattle.krates_build_verdict.specs.SameBuild.{OtherBuildRefusal, IsOfBuild}
use Rattle.krates_build_verdict.specs.declared.refusal.BuildRefusal.{BuildRefusal}
use Rattle.krates_build_verdict.specs.declared.refusal.BuildRefusal.TheVariants as refusals
use Rattle.krates_build_verdict.specs.declared.subject.BuildSubject.{BuildSubject}
use Rattle.krates_build_verdict.specs.declared.verdict.BuildVerdict.{BuildVerdict}

-- ---- a subject

-- it is of this document and this build, each of whose requests is answered, and its tables are theirs
pub record IsSubjectFor (d : Lookup) (s : BuildSettingModel) (subject : BuildSubject) : Type 0 where
  pub document : subject.document.now ≡ d
  pub answered : IsAnswered (resolved_view d) s
  pub tables : AreTablesOf (resolved_view d) s (map id_of d.ids.now.table.ids.items) subject.tables

-- why there is none: a request isn't answered; memory may always run out
abbrev pub SubjectRefusal : Resolved → BuildSettingModel → BuildRefusal → Type 0
SubjectRefusal r s (refusals.Unanswered text) = (request : Unanswered) × TellsUnanswered r s (Some request)
SubjectRefusal r s refusals.Memory = ⊤
SubjectRefusal r s _ = ⊥

-- ---- bytes

-- the bytes are a text that reads as a certificate, of which this holds
pub record ReadsAsOne (bytes : Text) (P : ToldCertificate → Type 0) : Type 0 where
  pub is_text : IsUtf8 bytes
  pub told : ToldCertificate
  pub reads : IsCertificateText bytes told
  pub so : P told

-- this holds of what certificates of the document and the build are judged against
pub record ForSubject (m : MetadataModel) (s : BuildSettingModel) (P : BuildSubject → Type 0) : Type 0 where
  pub document : Lookup
  pub of_metadata : IsDocumentOf m document
  pub subject : BuildSubject
  pub of_build : IsSubjectFor document s subject
  pub so : P subject

-- a verdict holds, and is what the claim says
pub record IsHeld (subject : BuildSubject) (c : ToldCertificate) : Type 0 where
  pub verdict : BuildVerdict
  pub says : ClaimSays subject c.claim verdict
  pub holds : Holds subject.tables verdict

-- they are a certificate of this build whose claim says what holds of the document
abbrev pub AreHeld : MetadataModel → BuildSettingModel → Text → Type 0
AreHeld m s bytes = ReadsAsOne bytes (λ c. IsOfBuild s c × ForSubject m s (λ subject. IsHeld subject c))

-- why not: the first class that is true of them counts
abbrev pub BytesRefusal : MetadataModel → BuildSettingModel → Text → BuildRefusal → Type 0
BytesRefusal m s bytes refusals.Utf8 = ¬ IsUtf8 bytes
BytesRefusal m s bytes (refusals.Certificate cause) = IsUtf8 bytes × IsTextRefusal bytes cause × ¬ cause ≡ texts.Read read_errors.Memory
BytesRefusal m s bytes (refusals.Setting claimed) = ReadsAsOne bytes (λ c. OtherBuildRefusal s c (refusals.Setting claimed))
BytesRefusal m s bytes (refusals.Count found wanted) = ReadsAsOne bytes (λ c. OtherBuildRefusal s c (refusals.Count found wanted))
BytesRefusal m s bytes (refusals.Machine triple) = ReadsAsOne bytes (λ c. OtherBuildRefusal s c (refusals.Machine triple))
BytesRefusal m s bytes (refusals.NoMachine triple cause) = ReadsAsOne bytes (λ c. OtherBuildRefusal s c (refusals.NoMachine triple cause))
BytesRefusal m s bytes (refusals.Document cause) = ReadsAsOne bytes (IsOfBuild s) × AdmissionRefusal m cause × ¬ cause ≡ errors.Memory
BytesRefusal m s bytes (refusals.Unanswered text) = ReadsAsOne bytes (IsOfBuild s)
    × ((d : Lookup) × IsDocumentOf m d × SubjectRefusal (resolved_view d) s (refusals.Unanswered text))
BytesRefusal m s bytes refusals.Memory = ⊤
BytesRefusal m s bytes e = ReadsAsOne bytes (λ c. IsOfBuild s c × ForSubject m s (λ subject. ClaimRefusal subject c.claim e))
