-- What is known of bytes, and of what was read, where there is no verdict.
use Rattle.std.proofs.Common.{◌≡◌, ◌⊎◌, IfErr, IfSome, IsUtf8, OnOk, None, [], Option, Result, Some, Ok, Err, inl, inr, refl, subst, sym}
use Rattle.krates_cm.specs.Document.{MetadataModel, Text}
use Rattle.krates_certificate.specs.CertificateRefusals.{IsMemory, fault_of}
use Rattle.krates_certificate.specs.CertificateTables.{IsCertificateText, TextFault}
use Rattle.krates_certificate.specs.CertificateViews.{certificate_told}
use Rattle.krates_certificate.specs.declared.certificate.Certificate.{Certificate}
use Rattle.krates_certificate.specs.declared.certificate_error.CertificateError.{CertificateError}
use Rattle.krates_words.specs.Stated.{IsStatedBy, StatedModel}
use Rattle.krates_words.specs.declared.choice.Choice.{Choice}
use Rattle.krates_verdict.specs.RefusalText.{CertificateErrorBecomes}
use Rattle.krates_verdict.specs.VerdictRefusals.{IsOfReader, JudgeRefusal}
use Rattle.krates_verdict.specs.VerdictRunning.{ChosenRefusal, IsRefusalOf, IsUnheld, OfChoice, RunRefusal}
use Rattle.krates_verdict.specs.Subject.{IsSubjectOf, SubjectModel, judged_under}
use Rattle.krates_verdict.specs.declared.refusal.Refusal.{Refusal}
use Rattle.krates_verdict.specs.declared.refusal.Refusal.TheVariants as refusals

-- bytes that aren't a certificate are refused as that
pub no_certificate : (s : SubjectModel) (read text : Text) (cause : CertificateError) (e : Refusal) → IsUtf8 text → read ≡ text → IsMemory (fault_of cause) ⊎ TextFault read (fault_of cause) → CertificateErrorBecomes cause e → IsUnheld s text e
no_certificate s read text cause (refusals.Certificate same) utf8 is told becomes = elim told [
  | inl memory ↦ absurd (becomes.1 memory)
  | inr fault ↦ (utf8, subst (λ (c : CertificateError). TextFault text (fault_of c)) (sym becomes.0) (subst (λ (t : Text). TextFault t (fault_of cause)) is fault))
]
no_certificate s read text cause refusals.Memory utf8 is told becomes = tt
no_certificate s read text cause (refusals.Read _) utf8 is told becomes = absurd becomes
no_certificate s read text cause refusals.Utf8 utf8 is told becomes = absurd becomes
no_certificate s read text cause (refusals.Setting _) utf8 is told becomes = absurd becomes
no_certificate s read text cause (refusals.Check _) utf8 is told becomes = absurd becomes
no_certificate s read text cause (refusals.Write _) utf8 is told becomes = absurd becomes

-- bytes whose certificate is refused are refused so
certificate_refused : (s : SubjectModel) (text : Text) (c : Certificate) (e : Refusal) → IsUtf8 text → IsCertificateText text (certificate_told c) → JudgeRefusal s c e → IsUnheld s text e
certificate_refused s text c (refusals.Setting claimed) utf8 reads h = record { is_text = utf8; certificate = c; reads = reads; so = h }
certificate_refused s text c (refusals.Check cause) utf8 reads h = record { is_text = utf8; certificate = c; reads = reads; so = h }
certificate_refused s text c refusals.Memory utf8 reads h = tt
certificate_refused s text c (refusals.Read _) utf8 reads h = absurd h
certificate_refused s text c refusals.Utf8 utf8 reads h = absurd h
certificate_refused s text c (refusals.Certificate _) utf8 reads h = absurd h
certificate_refused s text c (refusals.Write _) utf8 reads h = absurd h

pub bytes_refused : {A : Type 0} (s : SubjectModel) (text : Text) (c : Certificate) (r : Result A Refusal) → IsUtf8 text → IsCertificateText text (certificate_told c) → IfErr r (JudgeRefusal s c) → IfErr r (IsUnheld s text)
bytes_refused s text c (Ok x) utf8 reads h = h
bytes_refused s text c (Err e) utf8 reads h = certificate_refused s text c e utf8 reads h

-- there are bytes that are those that are known
some_bytes : (left : Option Text) → (bytes : Text) × IfSome left (λ known. bytes ≡ known)
some_bytes None = ([], tt)
some_bytes (Some known) = (known, refl)

unread : (s : SubjectModel) (left : Option Text) (e : Refusal) → IsOfReader e → RunRefusal s left e
unread s left (refusals.Read cause) h = let w = some_bytes left in record { bytes = w.0; all = w.1; so = tt }
unread s left refusals.Memory h = let w = some_bytes left in record { bytes = w.0; all = w.1; so = tt }
unread s left refusals.Utf8 h = absurd h.1
unread s left (refusals.Certificate _) h = absurd h.1
unread s left (refusals.Setting _) h = absurd h.1
unread s left (refusals.Check _) h = absurd h.1
unread s left (refusals.Write _) h = absurd h.1

-- a run without bytes is refused so
pub run_unread : (s : SubjectModel) (left : Option Text) (e same : Refusal) → IsOfReader e → same ≡ e → RunRefusal s left same
run_unread s left e same h is = subst (RunRefusal s left) (sym is) (unread s left e h)

-- bytes without a verdict have none that is written
unwritten : (s : SubjectModel) (bytes : Text) (e : Refusal) → IsUnheld s bytes e → IsRefusalOf s bytes e
unwritten s bytes refusals.Utf8 h = h
unwritten s bytes (refusals.Certificate _) h = h
unwritten s bytes (refusals.Setting _) h = h
unwritten s bytes (refusals.Check _) h = h
unwritten s bytes refusals.Memory h = h
unwritten s bytes (refusals.Read _) h = absurd h
unwritten s bytes (refusals.Write _) h = absurd h

-- and so is one over bytes that are refused
pub run_refused : (s : SubjectModel) (left : Option Text) (bytes : Text) (e same : Refusal) → IfSome left (λ known. bytes ≡ known) → IsUnheld s bytes e → same ≡ e → RunRefusal s left same
run_refused s left bytes e same all h is = subst (RunRefusal s left) (sym is) (record { bytes = bytes; all = all; so = unwritten s bytes e h })

-- ---- under what a command line chooses

-- a document under what a choice states
pub stated_subject : (c : Choice) (m : MetadataModel) (stated : StatedModel) → IsStatedBy c stated → IsSubjectOf c m (judged_under m stated)
stated_subject c m stated is = record { metadata = refl; setting = is.setting; words = is.words }

-- what a run wrote over the subject of a choice
pub chosen_written : {A : Type 0} (c : Choice) (m : MetadataModel) (s : SubjectModel) (P : SubjectModel → Type 0) (r : Result A Refusal) → IsSubjectOf c m s → OnOk r (P s) → OnOk r (OfChoice c m P)
chosen_written c m s P (Ok x) is h = (s, is, h)
chosen_written c m s P (Err e) is h = h

one_chosen : (c : Choice) (m : MetadataModel) (s : SubjectModel) (left : Option Text) (e : Refusal) → IsSubjectOf c m s → RunRefusal s left e → ChosenRefusal c m left e
one_chosen c m s left (refusals.Read cause) is h = (s, is, h)
one_chosen c m s left refusals.Utf8 is h = (s, is, h)
one_chosen c m s left (refusals.Certificate cause) is h = (s, is, h)
one_chosen c m s left (refusals.Setting claimed) is h = (s, is, h)
one_chosen c m s left (refusals.Check cause) is h = (s, is, h)
one_chosen c m s left (refusals.Write cause) is h = (s, is, h)
one_chosen c m s left refusals.Memory is h = tt

-- and why it wrote nothing
pub chosen_refused : {A : Type 0} (c : Choice) (m : MetadataModel) (s : SubjectModel) (left : Option Text) (r : Result A Refusal) → IsSubjectOf c m s → IfErr r (RunRefusal s left) → IfErr r (ChosenRefusal c m left)
chosen_refused c m s left (Ok x) is h = h
chosen_refused c m s left (Err e) is h = one_chosen c m s left e is h
