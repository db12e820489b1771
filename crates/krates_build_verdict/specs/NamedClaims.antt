-- What the words of a claim name: facts, and steps by number.
use Rattle.std.specs.Prelude.{◌≡◌, ℕ, List, [], ◌∷◌, ◌++◌, Some, map, slice_get}
use Rattle.krates_cm.specs.Document.{Text}
use Rattle.krates_build_certificate.specs.BuildCertificateViews.{ToldStep}
use Rattle.krates_build_facts.specs.FactModels.{FactModel, RuleModel}
use Rattle.krates_build_facts.specs.Steps.{given_in}
use Rattle.krates_build_naming.specs.NamedFacts.{fact_of}
use Rattle.krates_build_naming.specs.declared.names.FactNames.{FactNames}

-- the words name these facts, one for each list of words
abbrev pub NamesFacts : FactNames → List (List Text) → List FactModel → Type 0
NamesFacts n named facts = map (λ words. (fact_of n words).value) named ≡ map (λ f. Some f) facts

-- the steps of these numbers give these facts, one for each number
abbrev pub GivesFacts : List RuleModel → List ℕ → List FactModel → Type 0
GivesFacts before uses facts = map (λ used. slice_get (given_in before) used) uses ≡ map (λ f. Some f) facts

-- behind those steps, what is told is this one: its words name the fact, and the steps that it uses give the premises
pub record NamesStep (n : FactNames) (before : List RuleModel) (told : ToldStep) (step : RuleModel) : Type 0 where
  pub fact : (fact_of n told.fact).value ≡ Some step.fact
  pub premises : GivesFacts before told.uses step.premises

-- what is told are these steps, one for each, behind those before it
pub data NamesSteps (n : FactNames) : List ToldStep → List RuleModel → Type 0 where
  none : NamesSteps n [] []
  one_more : {told : List ToldStep} {steps : List RuleModel} {x : ToldStep} {step : RuleModel}
      → NamesSteps n told steps → NamesStep n steps x step → NamesSteps n (told ++ x ∷ []) (steps ++ step ∷ [])
