-- Derivations by number: steps, each of which follows by a row from what those before it give.
use Rattle.std.specs.Prelude.{◌≡◌, ◌⊎◌, ℕ, List, Contains, Some, map, slice_get, take}
use Rattle.krates_rules.specs.Facts.{Id}
use Rattle.krates_rules.specs.Resolved.{Resolved}
use Rattle.krates_units.specs.BuildFacts.{Fact}
use Rattle.krates_units.specs.BuildRules.{Rule}
use Rattle.krates_units.specs.BuildSetting.{BuildSettingModel}
use Rattle.krates_units.specs.Machines.{MachineModel}
use Rattle.krates_build_tables.specs.TablesOf.{AreTables}
use Rattle.krates_build_tables.specs.declared.tables.Tables.{Tables}
use Rattle.krates_build_facts.specs.FactModels.{FactModel, RuleModel, fact_view}
use Rattle.krates_build_facts.specs.Meanings.{AreMeant, Follows, IsRow, Means}
use Rattle.krates_build_facts.specs.declared.steps.BuildStep.{BuildStep}

-- a step, by its texts
abbrev pub step_view : BuildStep → RuleModel
step_view step = record { premises = map fact_view step.premises.items; fact = fact_view step.fact }

-- what the steps give
abbrev pub given_in : List RuleModel → List FactModel
given_in steps = map (λ step. step.fact) steps

-- the step may follow these: by a row, from what they give, and they don't give its fact
pub record MayComeNext (t : Tables) (before : List RuleModel) (step : RuleModel) : Type 0 where
  pub row : IsRow t step.premises step.fact
  pub premises : (f : FactModel) → Contains step.premises f → Contains (given_in before) f
  pub fresh : ¬ Contains (given_in before) step.fact

-- each step may follow those before it
abbrev pub AreSteps : Tables → List RuleModel → Type 0
AreSteps t steps = (place : ℕ) (step : RuleModel) → slice_get steps place ≡ Some step → MayComeNext t (take place steps) step

-- a step needs the fact
abbrev pub IsNeededIn : List RuleModel → FactModel → Type 0
IsNeededIn steps f = (step : RuleModel) × Contains steps step × Contains step.premises f

-- they give the fact, and nothing else but what one of them needs
pub record AreStepsTo (t : Tables) (steps : List RuleModel) (f : FactModel) : Type 0 where
  pub steps_are : AreSteps t steps
  pub gives : Contains (given_in steps) f
  pub needed : (other : FactModel) → Contains (given_in steps) other → (other ≡ f) ⊎ IsNeededIn steps other

-- what steps give follows
abbrev pub StepsAreSound : Type 0
StepsAreSound = (t : Tables) (steps : List RuleModel) → AreSteps t steps → (f : FactModel) → Contains (given_in steps) f → Follows t f

-- the step means one rule: what it uses means the premises of the rule, in order, and its fact means what the rule gives
pub record MeansRule (r : Resolved) (s : BuildSettingModel) (ids : List Id) (ms : List MachineModel) (t : Tables) (step : RuleModel) : Type 0 where
  pub premises : List Fact
  pub fact : Fact
  pub uses : AreMeant r s ids ms t step.premises premises
  pub gives : Means r s ids ms t step.fact fact
  pub by : Rule r s premises fact

-- each step means one rule, where the tables are those of a document and a build
abbrev pub StepsAreRules : Type 0
StepsAreRules = (r : Resolved) (s : BuildSettingModel) (ids : List Id) (ms : List MachineModel) (t : Tables) → AreTables r s ids ms t
    → (steps : List RuleModel) → AreSteps t steps → (step : RuleModel) → Contains steps step → MeansRule r s ids ms t step
