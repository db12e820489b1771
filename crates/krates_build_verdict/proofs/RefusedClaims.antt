-- Why claims are refused, by what is refused of their steps and facts.
use Rattle.std.proofs.Common.{◌≡◌, ◌∙◌, ℕ, List, sym, subst}
use Rattle.krates_cm.specs.Document.{Text}
use Rattle.krates_build_certificate.specs.BuildCertificateViews.{ToldStep}
use Rattle.krates_build_checkers.specs.Acceptance.{IsRefused}
use Rattle.krates_build_checkers.specs.Closedness.{IsClosedRefused}
use Rattle.krates_build_checkers.specs.declared.build_check_error.BuildCheckError.{BuildCheckError}
use Rattle.krates_build_facts.specs.FactModels.{FactModel, RuleModel}
use Rattle.krates_build_naming.specs.declared.names.FactNames.{FactNames}
use Rattle.krates_build_tables.specs.declared.tables.Tables.{Tables}
use Rattle.krates_build_verdict.specs.BuildVerdicts.{IsLostAt, NoneLost}
use Rattle.krates_build_verdict.specs.ClaimRefusals.{FactsRefusal, ListedRefusal, StepsRefusal, ToldRefusal}
use Rattle.krates_build_verdict.specs.NamedClaims.{NamesFacts, NamesSteps}
use Rattle.krates_build_verdict.specs.RefusalCauses.{ObjectionBecomes}
use Rattle.krates_build_verdict.specs.declared.refusal.BuildRefusal.{BuildRefusal}
use Rattle.krates_build_verdict.specs.declared.refusal.BuildRefusal.TheVariants as refusals

-- ---- steps

pub told_unread : (t : Tables) (n : FactNames) (told : List ToldStep) (e : BuildRefusal) → StepsRefusal n told e → ToldRefusal t n told e
told_unread t n told refusals.Utf8 h = h
told_unread t n told (refusals.Certificate _) h = h
told_unread t n told (refusals.Setting _) h = h
told_unread t n told (refusals.Count _ _) h = h
told_unread t n told (refusals.Machine _) h = h
told_unread t n told (refusals.NoMachine _ _) h = h
told_unread t n told (refusals.Document _) h = h
told_unread t n told (refusals.Unanswered _) h = h
told_unread t n told (refusals.Unnamed _ _ _) h = h
told_unread t n told (refusals.Later _ _) h = h
told_unread t n told (refusals.Lost _) h = h
told_unread t n told (refusals.Check _) h = absurd h.refused.told
told_unread t n told refusals.Memory h = tt

pub told_refused : (t : Tables) (n : FactNames) (told : List ToldStep) (steps : List RuleModel) (cause : BuildCheckError) (e : BuildRefusal) → NamesSteps n told steps → IsRefused t steps cause → ObjectionBecomes cause e → ToldRefusal t n told e
told_refused t n told steps cause refusals.Utf8 named h becomes = absurd becomes
told_refused t n told steps cause (refusals.Certificate _) named h becomes = absurd becomes
told_refused t n told steps cause (refusals.Setting _) named h becomes = absurd becomes
told_refused t n told steps cause (refusals.Count _ _) named h becomes = absurd becomes
told_refused t n told steps cause (refusals.Machine _) named h becomes = absurd becomes
told_refused t n told steps cause (refusals.NoMachine _ _) named h becomes = absurd becomes
told_refused t n told steps cause (refusals.Document _) named h becomes = absurd becomes
told_refused t n told steps cause (refusals.Unanswered _) named h becomes = absurd becomes
told_refused t n told steps cause (refusals.Unnamed _ _ _) named h becomes = absurd becomes
told_refused t n told steps cause (refusals.Later _ _) named h becomes = absurd becomes
told_refused t n told steps cause (refusals.Lost _) named h becomes = absurd becomes
told_refused t n told steps cause (refusals.Check _) named h becomes = (steps, named, subst (IsRefused t steps) (sym becomes.0) h, λ memory. becomes.1 (sym becomes.0 ∙ memory))
told_refused t n told steps cause refusals.Memory named h becomes = tt

-- ---- facts

pub listed_unread : (t : Tables) (n : FactNames) (named : List (List Text)) (e : BuildRefusal) → FactsRefusal n named e → ListedRefusal t n named e
listed_unread t n named refusals.Utf8 h = h
listed_unread t n named (refusals.Certificate _) h = h
listed_unread t n named (refusals.Setting _) h = h
listed_unread t n named (refusals.Count _ _) h = h
listed_unread t n named (refusals.Machine _) h = h
listed_unread t n named (refusals.NoMachine _ _) h = h
listed_unread t n named (refusals.Document _) h = h
listed_unread t n named (refusals.Unanswered _) h = h
listed_unread t n named (refusals.Unnamed _ _ _) h = h
listed_unread t n named (refusals.Later _ _) h = h
listed_unread t n named (refusals.Lost _) h = absurd h.refused.told
listed_unread t n named (refusals.Check _) h = absurd h.refused.told
listed_unread t n named refusals.Memory h = tt

pub listed_lost : (t : Tables) (n : FactNames) (named : List (List Text)) (facts : List FactModel) (number : ℕ) (e : BuildRefusal) → NamesFacts n named facts → e ≡ refusals.Lost number → IsLostAt facts number → ListedRefusal t n named e
listed_lost t n named facts number e read is lost = subst (ListedRefusal t n named) (sym is) (facts, read, lost)

pub listed_refused : (t : Tables) (n : FactNames) (named : List (List Text)) (facts : List FactModel) (cause : BuildCheckError) (e : BuildRefusal) → NamesFacts n named facts → NoneLost facts → IsClosedRefused t facts cause
    → ObjectionBecomes cause e → ListedRefusal t n named e
listed_refused t n named facts cause refusals.Utf8 read whole h becomes = absurd becomes
listed_refused t n named facts cause (refusals.Certificate _) read whole h becomes = absurd becomes
listed_refused t n named facts cause (refusals.Setting _) read whole h becomes = absurd becomes
listed_refused t n named facts cause (refusals.Count _ _) read whole h becomes = absurd becomes
listed_refused t n named facts cause (refusals.Machine _) read whole h becomes = absurd becomes
listed_refused t n named facts cause (refusals.NoMachine _ _) read whole h becomes = absurd becomes
listed_refused t n named facts cause (refusals.Document _) read whole h becomes = absurd becomes
listed_refused t n named facts cause (refusals.Unanswered _) read whole h becomes = absurd becomes
listed_refused t n named facts cause (refusals.Unnamed _ _ _) read whole h becomes = absurd becomes
listed_refused t n named facts cause (refusals.Later _ _) read whole h becomes = absurd becomes
listed_refused t n named facts cause (refusals.Lost _) read whole h becomes = absurd becomes
listed_refused t n named facts cause (refusals.Check _) read whole h becomes = (facts, read, whole, subst (IsClosedRefused t facts) (sym becomes.0) h, λ memory. becomes.1 (sym becomes.0 ∙ memory))
listed_refused t n named facts cause refusals.Memory read whole h becomes = tt

pub listed_unfinished : (t : Tables) (n : FactNames) (named : List (List Text)) (e : BuildRefusal) → e ≡ refusals.Memory → ListedRefusal t n named e
listed_unfinished t n named e is = subst (ListedRefusal t n named) (sym is) tt
