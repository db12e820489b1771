-- Parts of a list of steps, by number: which steps a part has, what each of them uses there, and how they are chosen.
use Rattle.std.specs.Prelude.{◌≡◌, ℕ, ◌+◌, ◌<◌, ◌≤◌, List, Some, Contains, length, slice_get, ◌↔◌, map, Bool, true, Option, false}
use Rattle.std.specs.List.{AllZip}
use Rattle.krates_rules.specs.StepParts.{Increase}
use Rattle.krates_rules.specs.Uses.{numbers_used}
use Rattle.krates_rules.specs.declared.uses.Uses.{Uses}
use Rattle.krates_rules.specs.Steps.{StepModel}
use Rattle.krates_selection.specs.declared.part_of_steps.MarkedSteps.{MarkedSteps}
use Rattle.krates_selection.specs.declared.part_of_steps.Making.{Making}

-- each step uses earlier ones
abbrev pub AreBackward : List Uses → Type 0
AreBackward steps = (k : ℕ) (x : Uses) → slice_get steps k ≡ Some x → (u : ℕ) → Contains (numbers_used x) u → u < k

-- the number stands for that of a step of the whole list: of the step itself, or of an earlier one that is the same
pub record IsNewNumber (Same : ℕ → ℕ → Type 0) (chosen : List ℕ) (before now : ℕ) : Type 0 where
  pub number : ℕ
  pub chosen_at : slice_get chosen now ≡ Some number
  pub earlier : number ≤ before
  pub same : Same number before

-- the steps that the step with this number uses in the part stand for those that it used
pub record IsChosenStep (Same : ℕ → ℕ → Type 0) (steps : List Uses) (chosen : List ℕ) (k : ℕ) (x : Uses) : Type 0 where
  pub before : ℕ
  pub chosen_at : slice_get chosen k ≡ Some before
  pub old : Uses
  pub at : slice_get steps before ≡ Some old
  pub uses : AllZip (IsNewNumber Same chosen) (numbers_used old) (numbers_used x)

-- the part has the chosen steps, in order
pub record IsPartBy (Same : ℕ → ℕ → Type 0) (steps : List Uses) (chosen : List ℕ) (part : List Uses) : Type 0 where
  pub increase : Increase chosen
  pub long : length part ≡ length chosen
  pub each : (k : ℕ) (x : Uses) → slice_get part k ≡ Some x → IsChosenStep Same steps chosen k x

-- a step is the same only as itself
abbrev pub SameNumber : ℕ → ℕ → Type 0
SameNumber a b = a ≡ b

-- steps with the same fact are the same
abbrev pub SameFact : List ℕ → ℕ → ℕ → Type 0
SameFact facts a b = slice_get facts a ≡ slice_get facts b

-- the step is chosen last
pub record EndsAt (chosen : List ℕ) (last : ℕ) : Type 0 where
  pub number : ℕ
  pub count : length chosen ≡ number + 1
  pub at : slice_get chosen number ≡ Some last

-- a later step uses the one with this number
pub record IsUsedBehind (part : List Uses) (number : ℕ) : Type 0 where
  pub user : ℕ
  pub later : number < user
  pub step : Uses
  pub at : slice_get part user ≡ Some step
  pub among : Contains (numbers_used step) number

-- each step but the last is used by a later one
abbrev pub AreUsedBehind : List Uses → Type 0
AreUsedBehind part = (k : ℕ) → k + 1 < length part → IsUsedBehind part k

-- no fact is chosen twice
abbrev pub HaveOwnNumbers : List ℕ → List ℕ → Type 0
HaveOwnNumbers facts chosen = (j k a b : ℕ) → slice_get chosen j ≡ Some a → slice_get chosen k ≡ Some b → SameFact facts a b → j ≡ k

-- each step's fact is the fact of a chosen step: itself or an earlier one
pub record IsChosenFor (facts chosen : List ℕ) (number : ℕ) : Type 0 where
  pub now : ℕ
  pub stands : IsNewNumber (SameFact facts) chosen number now

-- ---- parts of steps with facts

-- the steps use what the numbers say
abbrev pub UseThese : List StepModel → List Uses → Type 0
UseThese whole steps = map (λ (x : StepModel). x.uses) whole ≡ map numbers_used steps

-- steps have the same fact exactly where the numbers of their facts are the same
abbrev pub HaveTheseFacts : List StepModel → List ℕ → Type 0
HaveTheseFacts whole facts =
    (j k : ℕ) (x y : StepModel) → slice_get whole j ≡ Some x → slice_get whole k ≡ Some y → SameFact facts j k ↔ (x.fact ≡ y.fact)

-- the step with this number in the part is a chosen one of the whole list, and uses what the numbers say
pub record IsPicked (whole : List StepModel) (chosen : List ℕ) (part : List Uses) (number : ℕ) (x : StepModel) : Type 0 where
  pub before : ℕ
  pub chosen_at : slice_get chosen number ≡ Some before
  pub old : StepModel
  pub at : slice_get whole before ≡ Some old
  pub rule : x.rule ≡ old.rule
  pub fact : x.fact ≡ old.fact
  pub uses : Uses
  pub here : slice_get part number ≡ Some uses
  pub used : x.uses ≡ numbers_used uses

-- these are the chosen steps
pub record ArePicked (whole : List StepModel) (chosen : List ℕ) (part : List Uses) (small : List StepModel) : Type 0 where
  pub long : length small ≡ length chosen
  pub each : (number : ℕ) (x : StepModel) → slice_get small number ≡ Some x → IsPicked whole chosen part number x

-- ---- steps that are chosen one by one

abbrev pub IsMarked : List Bool → ℕ → Type 0
IsMarked marks k = slice_get marks k ≡ Some true

-- a chosen step stands for this one: itself, or an earlier one with the same fact
pub record HasChosen (facts : List ℕ) (marks : List Bool) (number : ℕ) : Type 0 where
  pub chosen : ℕ
  pub earlier : chosen ≤ number
  pub marked : IsMarked marks chosen
  pub same : SameFact facts chosen number

-- No fact is chosen twice; what a chosen step uses is earlier, and another chosen one stands for it.
pub record IsChoice (c : MarkedSteps) (count : ℕ) : Type 0 where
  pub facts : length c.facts.now ≡ length c.steps.now
  pub marks : length c.marks.now ≡ length c.steps.now
  pub low : (k f : ℕ) → slice_get c.facts.now k ≡ Some f → f < count
  pub own : (j k : ℕ) → IsMarked c.marks.now j → IsMarked c.marks.now k → SameFact c.facts.now j k → j ≡ k
  pub reached : (k : ℕ) (x : Uses) (u : ℕ) → IsMarked c.marks.now k → slice_get c.steps.now k ≡ Some x → Contains (numbers_used x) u → (u < k) × HasChosen c.facts.now c.marks.now u

-- the new number of the step that has the fact of this one
pub record HasNewNumber (facts : List ℕ) (numbers : List (Option ℕ)) (before now : ℕ) : Type 0 where
  pub fact : ℕ
  pub fact_at : slice_get facts before ≡ Some fact
  pub at : slice_get numbers fact ≡ Some (Some now)

-- the step has a new number
abbrev pub IsNumbered : List ℕ → List (Option ℕ) → ℕ → Type 0
IsNumbered facts numbers before = (now : ℕ) × HasNewNumber facts numbers before now

-- the part has the marked steps before the place
pub record IsPartBelow (c : MarkedSteps) (n : ℕ) (chosen : List ℕ) (part : List Uses) (numbers : List (Option ℕ)) : Type 0 where
  pub long : length part ≡ length chosen
  pub low : (j a : ℕ) → slice_get chosen j ≡ Some a → a < n
  pub increase : Increase chosen
  pub marked : (j a : ℕ) → slice_get chosen j ≡ Some a → IsMarked c.marks.now a
  pub each : (j : ℕ) (y : Uses) → slice_get part j ≡ Some y → IsChosenStep (SameFact c.facts.now) c.steps.now chosen j y
  pub placed : (k : ℕ) → k < n → IsMarked c.marks.now k → (v : ℕ) × HasNewNumber c.facts.now numbers k v × (slice_get chosen v ≡ Some k)

abbrev pub IsMadeBelow : MarkedSteps → ℕ → Making → Type 0
IsMadeBelow c n x = IsPartBelow c n x.chosen.items x.uses.items x.numbers.items

-- the part has exactly the chosen steps
pub record IsMade (c : MarkedSteps) (chosen : List ℕ) (part : List Uses) : Type 0 where
  pub is_part : IsPartBy (SameFact c.facts.now) c.steps.now chosen part
  pub marked : (j a : ℕ) → slice_get chosen j ≡ Some a → IsMarked c.marks.now a
  pub each : (k : ℕ) → IsMarked c.marks.now k → (v : ℕ) × (slice_get chosen v ≡ Some k)

-- ---- the first step of each fact

-- a marked step has the fact
abbrev pub HasMarked : List ℕ → List Bool → ℕ → Type 0
HasMarked facts marks fact = (k : ℕ) × IsMarked marks k × (slice_get facts k ≡ Some fact)

-- of the steps before the place, the first of each fact is marked; exactly their facts were seen
pub record AreFirstBelow (facts : List ℕ) (n : ℕ) (seen marks : List Bool) : Type 0 where
  pub long : length marks ≡ n
  pub own : (j k : ℕ) → IsMarked marks j → IsMarked marks k → SameFact facts j k → j ≡ k
  pub reached : (k : ℕ) → k < n → HasChosen facts marks k
  pub known : (f : ℕ) → IsMarked seen f → HasMarked facts marks f
  pub unknown : (f k : ℕ) → slice_get seen f ≡ Some false → k < n → slice_get facts k ≡ Some f → ⊥

-- the first step of each fact is marked
pub record AreFirst (facts : List ℕ) (marks : List Bool) : Type 0 where
  pub long : length marks ≡ length facts
  pub own : (j k : ℕ) → IsMarked marks j → IsMarked marks k → SameFact facts j k → j ≡ k
  pub reached : (k : ℕ) → k < length facts → HasChosen facts marks k

-- ---- the steps that a step needs

-- a marked step at the place or after it uses the other
pub record HasMarkedUser (steps : List Uses) (marks : List Bool) (from number : ℕ) : Type 0 where
  pub user : ℕ
  pub behind : from ≤ user
  pub later : number < user
  pub marked : IsMarked marks user
  pub step : Uses
  pub at : slice_get steps user ≡ Some step
  pub among : Contains (numbers_used step) number

-- The last step is marked, and none after it; what a marked step at the place or after it uses is marked; and each marked step but the
-- last is used by a marked one at the place or after it.
pub record AreMarkedFrom (steps : List Uses) (last from : ℕ) (marks : List Bool) : Type 0 where
  pub long : length marks ≡ length steps
  pub itself : IsMarked marks last
  pub low : (k : ℕ) → IsMarked marks k → k ≤ last
  pub closed : (k : ℕ) (x : Uses) (u : ℕ) → from ≤ k → IsMarked marks k → slice_get steps k ≡ Some x → Contains (numbers_used x) u → IsMarked marks u
  pub used : (k : ℕ) → IsMarked marks k → k < last → HasMarkedUser steps marks from k

-- exactly the steps on which the last one depends are marked
abbrev pub AreNeeded : List Uses → ℕ → List Bool → Type 0
AreNeeded steps last marks = AreMarkedFrom steps last 0 marks

-- each number is at its own place
pub record AreOwnNumbers (count : ℕ) (numbers : List ℕ) : Type 0 where
  pub long : length numbers ≡ count
  pub each : (k : ℕ) → k < count → slice_get numbers k ≡ Some k
