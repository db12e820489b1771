-- A derivation as a list of steps, each of which follows by one rule from earlier ones.
use Rattle.std.specs.Prelude.{◌≡◌, ℕ, ◌+◌, ◌<◌, List, Some, length, slice_get}
use Rattle.std.specs.List.{AllZip}
use Rattle.krates_rules.specs.Facts.{Fact}
use Rattle.krates_rules.specs.Rules.{Questions, Rule}

-- a fact, the number of the rule that gives it, and the numbers of the steps that it is given from, in the order of the rule
pub record StepModel : Type 0 where
  pub rule : ℕ
  pub fact : Fact
  pub uses : List ℕ

-- the list has the fact at the place, which is before the number
pub record IsEarlier (steps : List StepModel) (number used : ℕ) (f : Fact) : Type 0 where
  pub before : used < number
  pub step : StepModel
  pub at : slice_get steps used ≡ Some step
  pub has : step.fact ≡ f

-- The step with this number follows: its fact by its rule from the facts of the steps that it uses, in order, all of them earlier.
pub record StepFollows (q : Questions) (steps : List StepModel) (number : ℕ) (x : StepModel) : Type 0 where
  pub premises : List Fact
  pub uses : AllZip (IsEarlier steps number) x.uses premises
  pub rule : Rule q x.rule premises x.fact

-- each step follows
abbrev pub EachFollows : Questions → List StepModel → Type 0
EachFollows q steps = (k : ℕ) (x : StepModel) → slice_get steps k ≡ Some x → StepFollows q steps k x

-- there is a step, and each follows
pub record IsAccepted (q : Questions) (steps : List StepModel) : Type 0 where
  pub some : 0 < length steps
  pub each : EachFollows q steps

-- the step with this number is the first that doesn't follow
pub record FailsFirst (q : Questions) (steps : List StepModel) (number : ℕ) : Type 0 where
  pub step : StepModel
  pub at : slice_get steps number ≡ Some step
  pub fails : StepFollows q steps number step → ⊥
  pub before : (k : ℕ) (x : StepModel) → k < number → slice_get steps k ≡ Some x → StepFollows q steps k x

-- the last step has the fact
pub record EndsIn (steps : List StepModel) (f : Fact) : Type 0 where
  pub number : ℕ
  pub count : length steps ≡ number + 1
  pub last : StepModel
  pub at : slice_get steps number ≡ Some last
  pub is : last.fact ≡ f

-- a step after these would follow: the fact by the rule from the facts of the steps with these numbers
abbrev pub Gives : Questions → List StepModel → ℕ → List ℕ → Fact → Type 0
Gives q steps rule uses f = StepFollows q steps (length steps) (record { rule = rule; fact = f; uses = uses })
