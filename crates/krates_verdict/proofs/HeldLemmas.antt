-- Bytes that are a certificate which holds are refused for nothing that is said of them.
use Rattle.std.proofs.Common.{◌≡◌, List, [], ◌∷◌, map, refl, sym, ap, ◌∙◌, subst, arith}
use Rattle.std.proofs.lemmas.Option.{none-some, same_Some}
use Rattle.serde_json.specs.Data.{Data}
use Rattle.krates_cm.specs.Document.{Text}
use Rattle.krates_certificate.specs.CertificateRefusals.{Fault}
use Rattle.krates_certificate.specs.CertificateRoundTrip.{NeverBoth, ReadsOnce as CertificateOnce}
use Rattle.krates_certificate.specs.CertificateTables.{CertificateFault, IsCertificate, IsCertificateText, TextFault, in_data, no_data}
use Rattle.krates_certificate.specs.CertificateViews.{ToldCertificate, certificate_told, fact_told, said_fact, said_step, step_told, told_closed, told_derivation}
use Rattle.krates_certificate.specs.declared.certificate.Certificate.{Certificate}
use Rattle.krates_certificate.specs.declared.certificate.Certificate.TheVariants as certificates
use Rattle.krates_checkers.specs.CheckRefusals.{IsCheckRefused, IsClosedRefused}
use Rattle.krates_checkers.specs.declared.check_error.CheckError.{CheckError}
use Rattle.krates_checkers.specs.declared.check_error.CheckError.TheVariants as causes
use Rattle.krates_rules.specs.Checks.{IsAcceptedFor, IsClosedFor}
use Rattle.krates_rules.specs.Derivation.{IsClosed}
use Rattle.krates_rules.specs.Facts as rules
use Rattle.krates_rules.specs.Questions.{questions}
use Rattle.krates_rules.specs.Resolved.{resolved}
use Rattle.krates_rules.specs.StepViews.{fact_view, facts_view, step_view, steps_view}
use Rattle.krates_rules.specs.Steps.{FailsFirst, StepModel}
use Rattle.krates_rules.specs.declared.derivation.Fact.{Fact}
use Rattle.krates_rules.specs.declared.derivation.Fact.TheVariants as facts
use Rattle.krates_rules.specs.declared.derivation.Step.{Step}
use Rattle.krates_verdict.specs.Holding.{IsAccepted, words_of}
use Rattle.krates_verdict.specs.VerdictRefusals.{IsCheckedNot}
use Rattle.krates_verdict.specs.VerdictRunning.{IsOutside, IsRefusalOf, IsVerdictOf}
use Rattle.krates_verdict.specs.Subject.{SubjectModel}
use Rattle.krates_verdict.specs.declared.refusal.Refusal.{Refusal}
use Rattle.krates_verdict.specs.declared.refusal.Refusal.TheVariants as refusals
use Rattle.krates_verdict.specs.declared.verdict.Verdict.{Verdict}
use Rattle.krates_rules.proofs.AdmittedTexts.{of_graph}
use Rattle.krates_rules.proofs.Readings.{ReadsOnce}
use Rattle.krates_verdict.proofs.Admitted.{not_turned_away}

-- ---- a certificate, by its view

said_of_fact : (f : Fact) → fact_view f ≡ said_fact (fact_told f)
said_of_fact (facts.Crate krate) = refl
said_of_fact (facts.Feature krate name) = refl
said_of_fact (facts.Kept parent child kind cfg) = refl
said_of_fact (facts.Toggled parent child name) = refl

said_of_facts : (fs : List Fact) → facts_view fs ≡ map said_fact (map fact_told fs)
said_of_facts [] = refl
said_of_facts (f ∷ fs) = rw (said_of_fact f, said_of_facts fs) refl

said_of_step : (x : Step) → step_view x ≡ said_step (step_told x)
said_of_step x = rw (said_of_fact x.fact) refl

said_of_steps : (xs : List Step) → steps_view xs ≡ map said_step (map step_told xs)
said_of_steps [] = refl
said_of_steps (x ∷ xs) = rw (said_of_step x, said_of_steps xs) refl

abbrev told_words : ToldCertificate → List Text
told_words (told_derivation words steps) = words
told_words (told_closed words listed) = words

abbrev IsToldAccepted : SubjectModel → ToldCertificate → Type 0
IsToldAccepted s (told_derivation words steps) = IsAcceptedFor s.metadata s.setting (map said_step steps)
IsToldAccepted s (told_closed words listed) = IsClosedFor s.metadata s.setting (map said_fact listed)

abbrev IsToldNot : SubjectModel → CheckError → ToldCertificate → Type 0
IsToldNot s cause (told_derivation words steps) = IsCheckRefused s.metadata s.setting (map said_step steps) cause
IsToldNot s cause (told_closed words listed) = IsClosedRefused s.metadata s.setting (map said_fact listed) cause

words_told : (c : Certificate) → words_of c ≡ told_words (certificate_told c)
words_told (certificates.Derivation words d) = refl
words_told (certificates.Closed words listed) = refl

accepted_told : (s : SubjectModel) (c : Certificate) → IsAccepted s c → IsToldAccepted s (certificate_told c)
accepted_told s (certificates.Derivation words d) h = subst (λ (xs : List StepModel). IsAcceptedFor s.metadata s.setting xs) (said_of_steps d.steps.items) h
accepted_told s (certificates.Closed words listed) h = subst (λ (fs : List rules.Fact). IsClosedFor s.metadata s.setting fs) (said_of_facts listed.items) h

refused_told : (s : SubjectModel) (cause : CheckError) (c : Certificate) → IsCheckedNot s c cause → IsToldNot s cause (certificate_told c)
refused_told s cause (certificates.Derivation words d) h = subst (λ (xs : List StepModel). IsCheckRefused s.metadata s.setting xs cause) (said_of_steps d.steps.items) h
refused_told s cause (certificates.Closed words listed) h = subst (λ (fs : List rules.Fact). IsClosedRefused s.metadata s.setting fs cause) (said_of_facts listed.items) h

-- ---- what is accepted isn't refused

steps_never : ReadsOnce → (s : SubjectModel) (steps : List StepModel) (cause : CheckError) → IsAcceptedFor s.metadata s.setting steps → IsCheckRefused s.metadata s.setting steps cause → (cause ≡ causes.Memory → ⊥) → ⊥
steps_never once s steps causes.Document accepted refused limited = not_turned_away once s.metadata accepted.ids accepted.admitted refused
steps_never once s steps causes.Empty accepted refused limited = let none = refused.holds.holds in let some = accepted.holds.holds.some in omega (arith, none, some)
steps_never once s steps (causes.Step number) accepted refused limited =
    let there = accepted.holds in
    let fault = of_graph s.metadata (λ g. FailsFirst (questions (resolved s.metadata g) s.setting) steps number) there.graph there.has_graph refused.holds in
    fault.fails (there.holds.each number fault.step fault.at)
steps_never once s steps causes.Memory accepted refused limited = limited refl
steps_never once s steps causes.Open accepted refused limited = refused

facts_never : ReadsOnce → (s : SubjectModel) (fs : List rules.Fact) (cause : CheckError) → IsClosedFor s.metadata s.setting fs → IsClosedRefused s.metadata s.setting fs cause → (cause ≡ causes.Memory → ⊥) → ⊥
facts_never once s fs causes.Document accepted refused limited = not_turned_away once s.metadata accepted.ids accepted.admitted refused
facts_never once s fs causes.Open accepted refused limited =
    let there = accepted.holds in
    of_graph s.metadata (λ g. IsClosed (questions (resolved s.metadata g) s.setting) fs → ⊥) there.graph there.has_graph refused.holds there.holds
facts_never once s fs causes.Memory accepted refused limited = limited refl
facts_never once s fs causes.Empty accepted refused limited = refused
facts_never once s fs (causes.Step number) accepted refused limited = refused

told_never : ReadsOnce → (s : SubjectModel) (cause : CheckError) (m : ToldCertificate) → IsToldAccepted s m → IsToldNot s cause m → (cause ≡ causes.Memory → ⊥) → ⊥
told_never once s cause (told_derivation words steps) accepted refused limited = steps_never once s (map said_step steps) cause accepted refused limited
told_never once s cause (told_closed words listed) accepted refused limited = facts_never once s (map said_fact listed) cause accepted refused limited

-- ---- texts

-- a text is one certificate
one_text : CertificateOnce IsCertificate → (t : Text) (a b : ToldCertificate) → IsCertificateText t a → IsCertificateText t b → a ≡ b
one_text one t a b (d, reads, is) (e, also, was) = one a b d is (subst (IsCertificate b) (same_Some e d (sym also ∙ reads)) was)

-- no fault is true of it
text_never : NeverBoth IsCertificate CertificateFault → (t : Text) (m : ToldCertificate) (fault : Fault) → IsCertificateText t m → TextFault t fault → ⊥
text_never never t m fault (d, reads, is) (no_data none e) = none-some d (sym none ∙ reads)
text_never never t m fault (d, reads, is) (in_data e also h) = never m d fault is (subst (λ (x : Data). CertificateFault x fault) (same_Some e d (sym also ∙ reads)) h)

pub held_refused : CertificateOnce IsCertificate → NeverBoth IsCertificate CertificateFault → ReadsOnce → (s : SubjectModel) (bytes : Text) (verdict : Verdict) (cause : Refusal) → IsVerdictOf s bytes verdict → IsRefusalOf s bytes cause → IsOutside cause
held_refused one never once s bytes verdict (refusals.Read cause) held refused = tt
held_refused one never once s bytes verdict refusals.Utf8 held refused = refused held.is_text
held_refused one never once s bytes verdict (refusals.Certificate cause) held refused = text_never never bytes (certificate_told held.certificate) _ held.reads refused.1
held_refused one never once s bytes verdict (refusals.Setting claimed) held refused =
    let same = one_text one bytes (certificate_told held.certificate) (certificate_told refused.certificate) held.reads refused.reads in
    let words = words_told refused.certificate ∙ sym (ap told_words same) ∙ sym (words_told held.certificate) in
    refused.so.1 (words ∙ held.so.same_words)
held_refused one never once s bytes verdict (refusals.Check cause) held refused =
    let same = one_text one bytes (certificate_told held.certificate) (certificate_told refused.certificate) held.reads refused.reads in
    let accepted = subst (IsToldAccepted s) same (accepted_told s held.certificate held.so.accepted) in
    told_never once s cause (certificate_told refused.certificate) accepted (refused_told s cause refused.certificate refused.so.1.0) refused.so.1.1
held_refused one never once s bytes verdict (refusals.Write cause) held refused = tt
held_refused one never once s bytes verdict refusals.Memory held refused = tt
