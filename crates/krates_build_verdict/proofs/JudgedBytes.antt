-- Why bytes say nothing of a document and a build, by what is refused of their certificate.
use Rattle.std.proofs.Common.{◌≡◌, ◌∙◌, IsUtf8, subst, sym}
use Rattle.std.specs.Prelude.{⊤}
use Rattle.krates_cm.specs.Document.{MetadataModel, Text}
use Rattle.krates_ids.specs.declared.error.Error as ids
use Rattle.krates_questions.specs.Lookup.{IsDocumentOf, resolved_view}
use Rattle.krates_questions.specs.declared.lookup.Lookup.{Lookup}
use Rattle.krates_rules.specs.AdmissionRefusals.{AdmissionRefusal}
use Rattle.krates_units.specs.BuildSetting.{BuildSettingModel}
use Rattle.krates_build_certificate.specs.BuildCertificateTexts.{IsCertificateText, IsTextRefusal}
use Rattle.krates_build_certificate.specs.BuildCertificateViews.{ToldCertificate, ToldClaim, told_steps, told_closed}
use Rattle.krates_build_certificate.specs.declared.certificate_error.BuildCertificateError.{BuildCertificateError}
use Rattle.krates_build_naming.specs.declared.names.FactNames.{FactNames}
use Rattle.krates_build_tables.specs.declared.tables.Tables.{Tables}
use Rattle.krates_build_verdict.specs.ClaimRefusals.{ClaimRefusal, RefusalBy}
use Rattle.krates_build_verdict.specs.JudgedBytes.{BytesRefusal, ForSubject, ReadsAsOne, SubjectRefusal}
use Rattle.krates_build_verdict.specs.RefusalCauses.{DocumentErrorBecomes, TextErrorBecomes}
use Rattle.krates_build_verdict.specs.SameBuild.{IsOfBuild, OtherBuildRefusal}
use Rattle.krates_build_verdict.specs.declared.refusal.BuildRefusal.{BuildRefusal}
use Rattle.krates_build_verdict.specs.declared.refusal.BuildRefusal.TheVariants as refusals

-- bytes that aren't a certificate
pub bytes_unread : (m : MetadataModel) (s : BuildSettingModel) (read text : Text) (cause : BuildCertificateError) (e : BuildRefusal) → IsUtf8 text → read ≡ text → IsTextRefusal read cause → TextErrorBecomes cause e → BytesRefusal m s text e
bytes_unread m s read text cause refusals.Utf8 utf8 is h becomes = absurd becomes
bytes_unread m s read text cause (refusals.Certificate _) utf8 is h becomes = (utf8, subst (IsTextRefusal text) (sym becomes.0) (subst (λ (t : Text). IsTextRefusal t cause) is h), λ memory. becomes.1 (sym becomes.0 ∙ memory))
bytes_unread m s read text cause (refusals.Setting _) utf8 is h becomes = absurd becomes
bytes_unread m s read text cause (refusals.Count _ _) utf8 is h becomes = absurd becomes
bytes_unread m s read text cause (refusals.Machine _) utf8 is h becomes = absurd becomes
bytes_unread m s read text cause (refusals.NoMachine _ _) utf8 is h becomes = absurd becomes
bytes_unread m s read text cause (refusals.Document _) utf8 is h becomes = absurd becomes
bytes_unread m s read text cause (refusals.Unanswered _) utf8 is h becomes = absurd becomes
bytes_unread m s read text cause (refusals.Unnamed _ _ _) utf8 is h becomes = absurd becomes
bytes_unread m s read text cause (refusals.Later _ _) utf8 is h becomes = absurd becomes
bytes_unread m s read text cause (refusals.Lost _) utf8 is h becomes = absurd becomes
bytes_unread m s read text cause (refusals.Check _) utf8 is h becomes = absurd becomes
bytes_unread m s read text cause refusals.Memory utf8 is h becomes = tt

-- a certificate of another build
pub bytes_of_other : (m : MetadataModel) (s : BuildSettingModel) (text : Text) (c : ToldCertificate) (e : BuildRefusal) → IsUtf8 text → IsCertificateText text c → OtherBuildRefusal s c e → BytesRefusal m s text e
bytes_of_other m s text c refusals.Utf8 utf8 reads h = absurd h.1.refused
bytes_of_other m s text c (refusals.Certificate _) utf8 reads h = absurd h.1.refused
bytes_of_other m s text c (refusals.Setting _) utf8 reads h = record { is_text = utf8; told = c; reads = reads; so = h }
bytes_of_other m s text c (refusals.Count _ _) utf8 reads h = record { is_text = utf8; told = c; reads = reads; so = h }
bytes_of_other m s text c (refusals.Machine _) utf8 reads h = record { is_text = utf8; told = c; reads = reads; so = h }
bytes_of_other m s text c (refusals.NoMachine _ _) utf8 reads h = record { is_text = utf8; told = c; reads = reads; so = h }
bytes_of_other m s text c (refusals.Document _) utf8 reads h = absurd h.1.refused
bytes_of_other m s text c (refusals.Unanswered _) utf8 reads h = absurd h.1.refused
bytes_of_other m s text c (refusals.Unnamed _ _ _) utf8 reads h = absurd h.1.refused
bytes_of_other m s text c (refusals.Later _ _) utf8 reads h = absurd h.1.refused
bytes_of_other m s text c (refusals.Lost _) utf8 reads h = absurd h.1.refused
bytes_of_other m s text c (refusals.Check _) utf8 reads h = absurd h.1.refused
bytes_of_other m s text c refusals.Memory utf8 reads h = tt

-- a document that isn't admitted
pub bytes_unadmitted : (m : MetadataModel) (s : BuildSettingModel) (text : Text) (cause : ids.Error) (e : BuildRefusal) → ReadsAsOne text (IsOfBuild s) → AdmissionRefusal m cause → DocumentErrorBecomes cause e → BytesRefusal m s text e
bytes_unadmitted m s text cause refusals.Utf8 reads h becomes = absurd becomes
bytes_unadmitted m s text cause (refusals.Certificate _) reads h becomes = absurd becomes
bytes_unadmitted m s text cause (refusals.Setting _) reads h becomes = absurd becomes
bytes_unadmitted m s text cause (refusals.Count _ _) reads h becomes = absurd becomes
bytes_unadmitted m s text cause (refusals.Machine _) reads h becomes = absurd becomes
bytes_unadmitted m s text cause (refusals.NoMachine _ _) reads h becomes = absurd becomes
bytes_unadmitted m s text cause (refusals.Document _) reads h becomes = (reads, subst (AdmissionRefusal m) (sym becomes.0) h, λ memory. becomes.1 (sym becomes.0 ∙ memory))
bytes_unadmitted m s text cause (refusals.Unanswered _) reads h becomes = absurd becomes
bytes_unadmitted m s text cause (refusals.Unnamed _ _ _) reads h becomes = absurd becomes
bytes_unadmitted m s text cause (refusals.Later _ _) reads h becomes = absurd becomes
bytes_unadmitted m s text cause (refusals.Lost _) reads h becomes = absurd becomes
bytes_unadmitted m s text cause (refusals.Check _) reads h becomes = absurd becomes
bytes_unadmitted m s text cause refusals.Memory reads h becomes = tt

-- a build of which a request isn't answered
pub bytes_unanswered : (m : MetadataModel) (s : BuildSettingModel) (text : Text) (d : Lookup) (e : BuildRefusal) → ReadsAsOne text (IsOfBuild s) → IsDocumentOf m d → SubjectRefusal (resolved_view d) s e → BytesRefusal m s text e
bytes_unanswered m s text d refusals.Utf8 reads is h = absurd h
bytes_unanswered m s text d (refusals.Certificate _) reads is h = absurd h
bytes_unanswered m s text d (refusals.Setting _) reads is h = absurd h
bytes_unanswered m s text d (refusals.Count _ _) reads is h = absurd h
bytes_unanswered m s text d (refusals.Machine _) reads is h = absurd h
bytes_unanswered m s text d (refusals.NoMachine _ _) reads is h = absurd h
bytes_unanswered m s text d (refusals.Document _) reads is h = absurd h
bytes_unanswered m s text d (refusals.Unanswered _) reads is h = (reads, (d, is, h))
bytes_unanswered m s text d (refusals.Unnamed _ _ _) reads is h = absurd h
bytes_unanswered m s text d (refusals.Later _ _) reads is h = absurd h
bytes_unanswered m s text d (refusals.Lost _) reads is h = absurd h
bytes_unanswered m s text d (refusals.Check _) reads is h = absurd h
bytes_unanswered m s text d refusals.Memory reads is h = tt

-- ---- a claim without a verdict

-- it is one of the refusals that a claim can have
abbrev pub IsOfClaim : BuildRefusal → Type 0
IsOfClaim (refusals.Unnamed part number word) = ⊤
IsOfClaim (refusals.Later number used) = ⊤
IsOfClaim (refusals.Lost number) = ⊤
IsOfClaim (refusals.Check cause) = ⊤
IsOfClaim refusals.Memory = ⊤
IsOfClaim _ = ⊥

of_claim : (t : Tables) (n : FactNames) (claim : ToldClaim) (e : BuildRefusal) → RefusalBy t n claim e → IsOfClaim e
of_claim t n (told_steps steps) refusals.Utf8 h = absurd h.refused.told
of_claim t n (told_steps steps) (refusals.Certificate _) h = absurd h.refused.told
of_claim t n (told_steps steps) (refusals.Setting _) h = absurd h.refused.told
of_claim t n (told_steps steps) (refusals.Count _ _) h = absurd h.refused.told
of_claim t n (told_steps steps) (refusals.Machine _) h = absurd h.refused.told
of_claim t n (told_steps steps) (refusals.NoMachine _ _) h = absurd h.refused.told
of_claim t n (told_steps steps) (refusals.Document _) h = absurd h.refused.told
of_claim t n (told_steps steps) (refusals.Unanswered _) h = absurd h.refused.told
of_claim t n (told_steps steps) (refusals.Unnamed _ _ _) h = tt
of_claim t n (told_steps steps) (refusals.Later _ _) h = tt
of_claim t n (told_steps steps) (refusals.Lost _) h = tt
of_claim t n (told_steps steps) (refusals.Check _) h = tt
of_claim t n (told_steps steps) refusals.Memory h = tt
of_claim t n (told_closed named) refusals.Utf8 h = absurd h.refused.told
of_claim t n (told_closed named) (refusals.Certificate _) h = absurd h.refused.told
of_claim t n (told_closed named) (refusals.Setting _) h = absurd h.refused.told
of_claim t n (told_closed named) (refusals.Count _ _) h = absurd h.refused.told
of_claim t n (told_closed named) (refusals.Machine _) h = absurd h.refused.told
of_claim t n (told_closed named) (refusals.NoMachine _ _) h = absurd h.refused.told
of_claim t n (told_closed named) (refusals.Document _) h = absurd h.refused.told
of_claim t n (told_closed named) (refusals.Unanswered _) h = absurd h.refused.told
of_claim t n (told_closed named) (refusals.Unnamed _ _ _) h = tt
of_claim t n (told_closed named) (refusals.Later _ _) h = tt
of_claim t n (told_closed named) (refusals.Lost _) h = tt
of_claim t n (told_closed named) (refusals.Check _) h = tt
of_claim t n (told_closed named) refusals.Memory h = tt

pub bytes_unsaid : (m : MetadataModel) (s : BuildSettingModel) (text : Text) (e : BuildRefusal) → ReadsAsOne text (λ c. IsOfBuild s c × ForSubject m s (λ subject. ClaimRefusal subject c.claim e)) → BytesRefusal m s text e
bytes_unsaid m s text refusals.Utf8 h = absurd (of_claim _ h.so.1.so.0 h.told.claim _ h.so.1.so.2)
bytes_unsaid m s text (refusals.Certificate _) h = absurd (of_claim _ h.so.1.so.0 h.told.claim _ h.so.1.so.2)
bytes_unsaid m s text (refusals.Setting _) h = absurd (of_claim _ h.so.1.so.0 h.told.claim _ h.so.1.so.2)
bytes_unsaid m s text (refusals.Count _ _) h = absurd (of_claim _ h.so.1.so.0 h.told.claim _ h.so.1.so.2)
bytes_unsaid m s text (refusals.Machine _) h = absurd (of_claim _ h.so.1.so.0 h.told.claim _ h.so.1.so.2)
bytes_unsaid m s text (refusals.NoMachine _ _) h = absurd (of_claim _ h.so.1.so.0 h.told.claim _ h.so.1.so.2)
bytes_unsaid m s text (refusals.Document _) h = absurd (of_claim _ h.so.1.so.0 h.told.claim _ h.so.1.so.2)
bytes_unsaid m s text (refusals.Unanswered _) h = absurd (of_claim _ h.so.1.so.0 h.told.claim _ h.so.1.so.2)
bytes_unsaid m s text (refusals.Unnamed _ _ _) h = h
bytes_unsaid m s text (refusals.Later _ _) h = h
bytes_unsaid m s text (refusals.Lost _) h = h
bytes_unsaid m s text (refusals.Check _) h = h
bytes_unsaid m s text refusals.Memory h = tt

-- memory ran out
pub bytes_unfinished : (m : MetadataModel) (s : BuildSettingModel) (text : Text) (e : BuildRefusal) → e ≡ refusals.Memory → BytesRefusal m s text e
bytes_unfinished m s text e is = subst (BytesRefusal m s text) (sym is) tt
