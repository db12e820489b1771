-- Which lists of steps are accepted, why others aren't, and what accepted lists say.
use Rattle.std.specs.Prelude.{◌≡◌, ◌<◌, ⊤, ℕ, List, [], Contains, Some, length, slice_get, take}
use Rattle.krates_rules.specs.Facts.{Id}
use Rattle.krates_rules.specs.Resolved.{Resolved}
use Rattle.krates_units.specs.BuildFacts.{Fact}
use Rattle.krates_units.specs.BuildSetting.{BuildSettingModel}
use Rattle.krates_units.specs.Built.{IsDerivable}
use Rattle.krates_units.specs.Machines.{MachineModel}
use Rattle.krates_build_tables.specs.TablesOf.{AreTables}
use Rattle.krates_build_tables.specs.declared.tables.Tables.{Tables}
use Rattle.krates_build_facts.specs.FactModels.{FactModel, RuleModel}
use Rattle.krates_build_facts.specs.Meanings.{Follows, Means}
use Rattle.krates_build_facts.specs.Steps.{AreSteps, MayComeNext, MeansRule, given_in}
use Rattle.krates_build_checkers.specs.declared.build_check_error.BuildCheckError.{BuildCheckError}
use Rattle.krates_build_checkers.specs.declared.build_check_error.BuildCheckError.TheVariants as refusals

-- there is a step, and each may follow those before it
pub record AreAccepted (t : Tables) (steps : List RuleModel) : Type 0 where
  pub some : 0 < length steps
  pub each : AreSteps t steps

-- the step with this number is the first that may not come next
pub record FailsFirst (t : Tables) (steps : List RuleModel) (number : ℕ) : Type 0 where
  pub before : AreSteps t (take number steps)
  pub step : RuleModel
  pub at : slice_get steps number ≡ Some step
  pub fails : ¬ MayComeNext t (take number steps) step

-- why a list of steps isn't accepted; memory may always run out
abbrev pub IsRefused : Tables → List RuleModel → BuildCheckError → Type 0
IsRefused t steps refusals.Empty = steps ≡ []
IsRefused t steps (refusals.Step number) = FailsFirst t steps number
IsRefused t steps refusals.Open = ⊥
IsRefused t steps refusals.Memory = ⊤

-- what accepted steps give follows
abbrev pub AcceptedFollows : Type 0
AcceptedFollows = (t : Tables) (steps : List RuleModel) → AreAccepted t steps → (f : FactModel) → Contains (given_in steps) f → Follows t f

-- what accepted steps give for the tables of a document and a build means a fact that is derivable
abbrev pub AcceptedIsDerivable : Type 0
AcceptedIsDerivable = (r : Resolved) (s : BuildSettingModel) (ids : List Id) (ms : List MachineModel) (t : Tables) → AreTables r s ids ms t
    → (steps : List RuleModel) → AreAccepted t steps → (number : FactModel) → Contains (given_in steps) number
    → (f : Fact) × Means r s ids ms t number f × IsDerivable r s f

-- each step that is accepted for the tables of a document and a build means one rule
abbrev pub AcceptedAreRules : Type 0
AcceptedAreRules = (r : Resolved) (s : BuildSettingModel) (ids : List Id) (ms : List MachineModel) (t : Tables) → AreTables r s ids ms t
    → (steps : List RuleModel) → AreAccepted t steps → (step : RuleModel) → Contains steps step → MeansRule r s ids ms t step
