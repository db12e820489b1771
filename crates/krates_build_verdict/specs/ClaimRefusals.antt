-- Why a claim about a build has no verdict. Each cause is true; memory may always run out.
use Rattle.std.specs.Prelude.{◌≡◌, ◌≤◌, ⊤, ℕ, List, Contains, Some, None, codes, length, option_map, slice_get, take}
use Rattle.krates_cm.specs.Document.{Text, text_view}
use Rattle.krates_build_certificate.specs.BuildCertificateViews.{ToldStep, ToldClaim, told_steps, told_closed}
use Rattle.krates_build_checkers.specs.Acceptance.{IsRefused}
use Rattle.krates_build_checkers.specs.Closedness.{IsClosedRefused}
use Rattle.krates_build_checkers.specs.declared.build_check_error.BuildCheckError.TheVariants as causes
use Rattle.krates_build_facts.specs.FactModels.{FactModel, RuleModel}
use Rattle.krates_build_naming.specs.NamedFacts.{fact_of}
use Rattle.krates_build_naming.specs.declared.names.FactNames.{FactNames}
use Rattle.krates_build_naming.specs.declared.names.NameFault.{NameFault}
use Rattle.krates_build_naming.specs.declared.names.NameFault.TheVariants as faults
use Rattle.krates_build_tables.specs.declared.tables.Tables.{Tables}
use Rattle.krates_build_verdict.specs.BuildVerdicts.{IsLostAt, NoneLost}
use Rattle.krates_build_verdict.specs.NamedClaims.{NamesFacts, NamesSteps}
use Rattle.krates_build_verdict.specs.SaidClaims.{AreNamesFor}
use Rattle.krates_build_verdict.specs.declared.refusal.BuildRefusal.{BuildRefusal}
use Rattle.krates_build_verdict.specs.declared.refusal.BuildRefusal.TheVariants as refusals
use Rattle.krates_build_verdict.specs.declared.subject.BuildSubject.{BuildSubject}

-- ---- of words

-- the place of the word that is at fault
abbrev pub place_of : NameFault → ℕ
place_of (faults.Missing place) = place
place_of (faults.Form place) = place
place_of (faults.Crate place) = place
place_of (faults.Meeting place) = place
place_of (faults.Side place) = place
place_of (faults.Mode place) = place
place_of (faults.Reference place) = place
place_of (faults.Link place) = place
place_of (faults.Lacking place) = place
place_of (faults.Target place) = place
place_of (faults.Platform place) = place
place_of (faults.Further place) = place

-- the refusal tells the word at this place, if there is one, of what is called so and has this number
abbrev pub TellsWord : (called : Text) → (number place : ℕ) → List Text → BuildRefusal → Type 0
TellsWord called number place words (refusals.Unnamed part at wrong) =
    (part.now ≡ called) × (at ≡ number) × (wrong.place ≡ place) × (option_map text_view wrong.text ≡ slice_get words place)
TellsWord called number place words refusals.Memory = ⊤
TellsWord called number place words _ = ⊥

-- the words name no fact, and the refusal tells a word that is at fault
pub record IsUnnamed (n : FactNames) (called : Text) (number : ℕ) (words : List Text) (e : BuildRefusal) : Type 0 where
  pub unnamed : (fact_of n words).value ≡ None
  pub fault : NameFault
  pub is_true : (fact_of n words).IsFault fault
  pub told : TellsWord called number (place_of fault) words e

-- ---- of steps

-- one of the numbers that are used is no step before that one
abbrev pub IsLater : List RuleModel → List ℕ → BuildRefusal → Type 0
IsLater before uses (refusals.Later number used) = (number ≡ length before) × (number ≤ used) × Contains uses used
IsLater before uses refusals.Memory = ⊤
IsLater before uses _ = ⊥

-- why what is told is no step behind those
abbrev pub StepRefusal : FactNames → List RuleModel → ToldStep → BuildRefusal → Type 0
StepRefusal n before x (refusals.Later number used) = IsLater before x.uses (refusals.Later number used)
StepRefusal n before x refusals.Memory = ⊤
StepRefusal n before x e = IsUnnamed n (codes "step") (length before) x.fact e

-- what is told behind these steps is none
pub record StepFails (n : FactNames) (told : List ToldStep) (e : BuildRefusal) : Type 0 where
  pub before : List RuleModel
  pub named : NamesSteps n (take (length before) told) before
  pub step : ToldStep
  pub here : slice_get told (length before) ≡ Some step
  pub refused : StepRefusal n before step e

-- why what is told are no steps
abbrev pub StepsRefusal : FactNames → List ToldStep → BuildRefusal → Type 0
StepsRefusal n told refusals.Memory = ⊤
StepsRefusal n told e = StepFails n told e

-- why steps have no verdict: they aren't steps, or not accepted
abbrev pub ToldRefusal : Tables → FactNames → List ToldStep → BuildRefusal → Type 0
ToldRefusal t n told (refusals.Check cause) =
    (steps : List RuleModel) × NamesSteps n told steps × IsRefused t steps cause × ¬ cause ≡ causes.Memory
ToldRefusal t n told e = StepsRefusal n told e

-- ---- of facts

-- the words behind those that name these facts name none
pub record FactFails (n : FactNames) (named : List (List Text)) (e : BuildRefusal) : Type 0 where
  pub before : List FactModel
  pub read : NamesFacts n (take (length before) named) before
  pub words : List Text
  pub here : slice_get named (length before) ≡ Some words
  pub refused : IsUnnamed n (codes "fact") (length before) words e

-- why words don't name facts
abbrev pub FactsRefusal : FactNames → List (List Text) → BuildRefusal → Type 0
FactsRefusal n named refusals.Memory = ⊤
FactsRefusal n named e = FactFails n named e

-- why facts have no verdict: they aren't named, one is lost, or they aren't closed
abbrev pub ListedRefusal : Tables → FactNames → List (List Text) → BuildRefusal → Type 0
ListedRefusal t n named (refusals.Lost number) = (facts : List FactModel) × NamesFacts n named facts × IsLostAt facts number
ListedRefusal t n named (refusals.Check cause) =
    (facts : List FactModel) × NamesFacts n named facts × NoneLost facts × IsClosedRefused t facts cause × ¬ cause ≡ causes.Memory
ListedRefusal t n named e = FactsRefusal n named e

-- ---- of a claim

abbrev pub RefusalBy : Tables → FactNames → ToldClaim → BuildRefusal → Type 0
RefusalBy t n (told_steps steps) e = ToldRefusal t n steps e
RefusalBy t n (told_closed named) e = ListedRefusal t n named e

-- why a claim has no verdict for a subject
abbrev pub ClaimRefusal : BuildSubject → ToldClaim → BuildRefusal → Type 0
ClaimRefusal s claim e = (n : FactNames) × AreNamesFor s n × RefusalBy s.tables n claim e
