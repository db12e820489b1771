-- What a verdict says follows from the laws of the rules.
use Rattle.std.proofs.Common.{◌≡◌, ℕ, List, [], ◌∷◌, ◌++◌, Some, length, refl, sym, ap, ◌∙◌, subst}
use Rattle.std.proofs.lemmas.List.{length-append, map-append}
use Rattle.std.specs.List.{slice_get}
use Rattle.krates_cm.specs.declared.package_id.PackageId.{PackageId}
use Rattle.krates_certificate.specs.declared.certificate.Certificate.{Certificate}
use Rattle.krates_certificate.specs.declared.certificate.Certificate.TheVariants as certificates
use Rattle.krates_rules.specs.Checks.{AreComplete, IsAcceptedFor, LastIsDerivable}
use Rattle.krates_rules.specs.Facts as rules
use Rattle.krates_rules.specs.Facts.{Crate}
use Rattle.krates_rules.specs.Resolved.{resolved}
use Rattle.krates_rules.specs.StepViews.{fact_view, facts_view, step_view, steps_view}
use Rattle.krates_rules.specs.Steps.{EndsIn, StepModel}
use Rattle.krates_rules.specs.declared.derivation.Step.{Step}
use Rattle.krates_verdict.specs.Holding.{Holds, StepsSay, said_last}
use Rattle.krates_verdict.specs.Subject.{SubjectModel}
use Rattle.krates_verdict.specs.Truth.{AreAllReachable, IsDerivable, NamesDerivable, NamesWhatIsThere}
use Rattle.krates_verdict.specs.declared.named_fact.NamedFact.{NamedFact}
use Rattle.krates_verdict.specs.declared.named_fact.NamedFact.TheVariants as named
use Rattle.krates_verdict.specs.declared.verdict.Verdict.{Verdict}
use Rattle.krates_verdict.specs.declared.verdict.Verdict.TheVariants as verdicts
use Rattle.krates_verdict.proofs.SpokenOf.{is_about}

-- ---- what the last step says

said_kept : (n : NamedFact) (count : ℕ) (krate : PackageId) (steps : ℕ) → verdicts.Kept krate steps ≡ said_last n count → n ≡ named.Crate krate
said_kept (named.Crate k) count krate steps e = cc
said_kept (named.Feature k name) count krate steps e = absurd cc
said_kept (named.Kept p c kind cfg) count krate steps e = absurd cc
said_kept (named.Toggled p c name) count krate steps e = absurd cc

said_follows : (n : NamedFact) (count : ℕ) (fact : NamedFact) (steps : ℕ) → verdicts.Follows fact steps ≡ said_last n count → n ≡ fact
said_follows (named.Crate k) count fact steps e = absurd cc
said_follows (named.Feature k name) count fact steps e = cc
said_follows (named.Kept p c kind cfg) count fact steps e = cc
said_follows (named.Toggled p c name) count fact steps e = cc

never_closed : (n : NamedFact) (count krates : ℕ) → verdicts.Closed krates ≡ said_last n count → ⊥
never_closed (named.Crate k) count krates e = cc
never_closed (named.Feature k name) count krates e = cc
never_closed (named.Kept p c kind cfg) count krates e = cc
never_closed (named.Toggled p c name) count krates e = cc

-- ---- the last step

at_end : (xs : List StepModel) (x : StepModel) → slice_get (xs ++ x ∷ []) (length xs) ≡ Some x
at_end [] x = refl
at_end (y ∷ ys) x = at_end ys x

ends_in : (xs before : List Step) (last : Step) (f : rules.Fact) → xs ≡ before ++ last ∷ [] → fact_view last.fact ≡ f → EndsIn (steps_view xs) f
ends_in xs before last f ends is =
    let views : steps_view xs ≡ steps_view before ++ step_view last ∷ [] = ap steps_view ends ∙ map-append step_view before (last ∷ []) in record {
      number = length (steps_view before);
      count = ap (λ (ys : List StepModel). length ys) views ∙ length-append (steps_view before) (step_view last ∷ []);
      last = step_view last;
      at = subst (λ (ys : List StepModel). slice_get ys (length (steps_view before)) ≡ Some (step_view last)) (sym views) (at_end (steps_view before) (step_view last));
      is = is;
    }

-- the fact in which accepted steps end is derivable
pub last_true : LastIsDerivable → (s : SubjectModel) (steps before : List Step) (last : Step) (f : rules.Fact) → IsAcceptedFor s.metadata s.setting (steps_view steps) → steps ≡ before ++ last ∷ [] → fact_view last.fact ≡ f → IsDerivable s f
last_true law s steps before last f accepted ends is =
    let there = accepted.holds in record {
      ids = accepted.ids;
      admitted = accepted.admitted;
      holds = record {
        graph = there.graph;
        has_graph = there.has_graph;
        holds = law (resolved s.metadata there.graph) s.setting (steps_view steps) f there.holds (ends_in steps before last f ends is);
      };
    }

-- ---- verdicts

-- steps that are accepted name a fact that is derivable
says_true : LastIsDerivable → (s : SubjectModel) (steps : List Step) (verdict : Verdict) → IsAcceptedFor s.metadata s.setting (steps_view steps) → (says : StepsSay s.metadata steps verdict) → NamesDerivable s says.fact
says_true law s steps verdict accepted says =
    let f = fact_view says.last.fact in
    (f, says.is_named.names, last_true law s steps says.before says.last f accepted says.ends refl)

-- which the document has
says_there : LastIsDerivable → (s : SubjectModel) (steps : List Step) (verdict : Verdict) → IsAcceptedFor s.metadata s.setting (steps_view steps) → (says : StepsSay s.metadata steps verdict)
    → NamesWhatIsThere s.metadata says.fact
says_there law s steps verdict accepted says =
    let f = fact_view says.last.fact in
    (f, says.is_named, is_about s f (last_true law s steps says.before says.last f accepted says.ends refl))

pub kept_true : LastIsDerivable → (s : SubjectModel) (c : Certificate) (krate : PackageId) (steps : ℕ) → Holds s c (verdicts.Kept krate steps) → NamesDerivable s (named.Crate krate)
kept_true law s (certificates.Derivation words d) krate steps h =
    subst (NamesDerivable s) (said_kept h.says.fact (length d.steps.items) krate steps h.says.says) (says_true law s d.steps.items (verdicts.Kept krate steps) h.accepted h.says)
kept_true law s (certificates.Closed words listed) krate steps h = let e = h.says.says in absurd cc

pub follows_true : LastIsDerivable → (s : SubjectModel) (c : Certificate) (fact : NamedFact) (steps : ℕ) → Holds s c (verdicts.Follows fact steps) → NamesDerivable s fact
follows_true law s (certificates.Derivation words d) fact steps h =
    subst (NamesDerivable s) (said_follows h.says.fact (length d.steps.items) fact steps h.says.says) (says_true law s d.steps.items (verdicts.Follows fact steps) h.accepted h.says)
follows_true law s (certificates.Closed words listed) fact steps h = let e = h.says.says in absurd cc

pub kept_there : LastIsDerivable → (s : SubjectModel) (c : Certificate) (krate : PackageId) (steps : ℕ) → Holds s c (verdicts.Kept krate steps) → NamesWhatIsThere s.metadata (named.Crate krate)
kept_there law s (certificates.Derivation words d) krate steps h =
    subst (NamesWhatIsThere s.metadata) (said_kept h.says.fact (length d.steps.items) krate steps h.says.says) (says_there law s d.steps.items (verdicts.Kept krate steps) h.accepted h.says)
kept_there law s (certificates.Closed words listed) krate steps h = let e = h.says.says in absurd cc

pub follows_there : LastIsDerivable → (s : SubjectModel) (c : Certificate) (fact : NamedFact) (steps : ℕ) → Holds s c (verdicts.Follows fact steps) → NamesWhatIsThere s.metadata fact
follows_there law s (certificates.Derivation words d) fact steps h =
    subst (NamesWhatIsThere s.metadata) (said_follows h.says.fact (length d.steps.items) fact steps h.says.says) (says_there law s d.steps.items (verdicts.Follows fact steps) h.accepted h.says)
follows_there law s (certificates.Closed words listed) fact steps h = let e = h.says.says in absurd cc

pub closed_true : AreComplete → (s : SubjectModel) (c : Certificate) (krates : ℕ) → Holds s c (verdicts.Closed krates) → AreAllReachable s krates
closed_true law s (certificates.Derivation words d) krates h = absurd (never_closed h.says.fact (length d.steps.items) krates h.says.says)
closed_true law s (certificates.Closed words listed) krates h =
    let says = h.says in
    let closed = h.accepted in
    let there = closed.holds in
    let e = says.says in record {
      krates = says.krates;
      once = says.once;
      counted = cc;
      all = record {
        ids = closed.ids;
        admitted = closed.admitted;
        holds = record {
          graph = there.graph;
          has_graph = there.has_graph;
          holds = λ id derivable. (says.exactly id).1 (law (resolved s.metadata there.graph) s.setting (facts_view listed.items) there.holds (Crate id) derivable);
        };
      };
    }
