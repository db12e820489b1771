-- A part of a list of steps: some of them, renumbered.
use Rattle.std.specs.Prelude.{◌≡◌, ℕ, ◌<◌, ◌≤◌, List, Some, Contains, length, slice_get}
use Rattle.std.specs.List.{AllZip}
use Rattle.krates_rules.specs.Steps.{StepModel}

-- no fact occurs twice
abbrev pub HaveOwnFacts : List StepModel → Type 0
HaveOwnFacts steps = (j k : ℕ) (x y : StepModel) → slice_get steps j ≡ Some x → slice_get steps k ≡ Some y → x.fact ≡ y.fact → j ≡ k

-- a later step uses the step with this number
pub record IsUsedLater (steps : List StepModel) (number : ℕ) : Type 0 where
  pub user : ℕ
  pub later : number < user
  pub step : StepModel
  pub at : slice_get steps user ≡ Some step
  pub among : Contains step.uses number

-- the numbers increase
abbrev pub Increase : List ℕ → Type 0
Increase chosen = (j k a b : ℕ) → slice_get chosen j ≡ Some a → slice_get chosen k ≡ Some b → j < k → a < b

-- a step of the part replaces one of the whole list: it is that one, or an earlier one with the same fact
pub record StandsFor (steps : List StepModel) (chosen : List ℕ) (before now : ℕ) : Type 0 where
  pub number : ℕ
  pub chosen_at : slice_get chosen now ≡ Some number
  pub earlier : number ≤ before
  pub step : StepModel
  pub at : slice_get steps number ≡ Some step
  pub same : (old : StepModel) → slice_get steps before ≡ Some old → step.fact ≡ old.fact

-- the step with this number in the part is a step of the whole list, and each step that it uses there replaces one that it used
pub record IsRenumbered (steps : List StepModel) (chosen : List ℕ) (number : ℕ) (x : StepModel) : Type 0 where
  pub before : ℕ
  pub chosen_at : slice_get chosen number ≡ Some before
  pub old : StepModel
  pub at : slice_get steps before ≡ Some old
  pub rule : x.rule ≡ old.rule
  pub fact : x.fact ≡ old.fact
  pub uses : AllZip (StandsFor steps chosen) old.uses x.uses

-- the part has the chosen steps, in order
pub record IsPart (steps : List StepModel) (chosen : List ℕ) (part : List StepModel) : Type 0 where
  pub increase : Increase chosen
  pub long : length part ≡ length chosen
  pub each : (k : ℕ) (x : StepModel) → slice_get part k ≡ Some x → IsRenumbered steps chosen k x
