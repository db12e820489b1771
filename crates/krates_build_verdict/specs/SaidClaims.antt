-- What an accepted claim says: which fact follows, or which crates are built.
use Rattle.std.specs.Prelude.{◌≡◌, ◌-◌, ℕ, List, Some, length, slice_get}
use Rattle.std.specs.BTreeSet.{BTreeSet}
use Rattle.krates_cm.specs.Document.{Text}
use Rattle.krates_build_certificate.specs.BuildCertificateViews.{ToldStep, ToldClaim, told_steps, told_closed}
use Rattle.krates_build_checkers.specs.Acceptance.{AreAccepted}
use Rattle.krates_build_checkers.specs.Closedness.{IsClosed}
use Rattle.krates_build_facts.specs.FactModels.{FactModel, RuleModel, fact_view}
use Rattle.krates_build_facts.specs.Steps.{given_in}
use Rattle.krates_build_naming.specs.declared.names.FactNames.{FactNames}
use Rattle.krates_build_tables.specs.declared.tables.Tables.{Tables}
use Rattle.krates_build_verdict.specs.BuildVerdicts.{HasBuilt, NoneLost}
use Rattle.krates_build_verdict.specs.NamedClaims.{NamesFacts, NamesSteps}
use Rattle.krates_build_verdict.specs.declared.subject.BuildSubject.{BuildSubject}
use Rattle.krates_build_verdict.specs.declared.verdict.BuildVerdict.{BuildVerdict}
use Rattle.krates_build_verdict.specs.declared.verdict.BuildVerdict.TheVariants as verdicts

-- the words of a subject's facts are read against the ids of its document's crates and its tables
pub record AreNamesFor (s : BuildSubject) (n : FactNames) : Type 0 where
  pub ids : n.ids.now ≡ s.document.now.ids.now.table.ids.items
  pub tables : n.tables.now ≡ s.tables

-- the steps that are told are accepted, there are so many, and the last of them gives the fact
pub record SaysFact (t : Tables) (n : FactNames) (told : List ToldStep) (fact : FactModel) (count : ℕ) : Type 0 where
  pub steps : List RuleModel
  pub named : NamesSteps n told steps
  pub accepted : AreAccepted t steps
  pub counted : count ≡ length steps
  pub last : slice_get (given_in steps) (count - 1) ≡ Some fact

-- the facts that the words name are closed, none is lost, and they say that these crates are built and no others
pub record SaysCrates (t : Tables) (n : FactNames) (words : List (List Text)) (krates : BTreeSet ℕ) : Type 0 where
  pub facts : List FactModel
  pub named : NamesFacts n words facts
  pub closed : IsClosed t facts
  pub whole : NoneLost facts
  pub built : HasBuilt krates facts

-- this is what a claim says
abbrev pub SaysBy : Tables → FactNames → ToldClaim → BuildVerdict → Type 0
SaysBy t n (told_steps steps) (verdicts.Follows fact count) = SaysFact t n steps (fact_view fact) count
SaysBy t n (told_closed words) (verdicts.Nothing krates) = SaysCrates t n words krates
SaysBy t n _ _ = ⊥

-- this is what it says for a subject
abbrev pub ClaimSays : BuildSubject → ToldClaim → BuildVerdict → Type 0
ClaimSays s claim verdict = (n : FactNames) × AreNamesFor s n × SaysBy s.tables n claim verdict
