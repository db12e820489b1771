-- What is looked for among instances, and when it is found.
use Rattle.std.specs.Prelude.{◌≡◌, ◌≢◌, Bool, true, false, List, Contains}
use Rattle.krates_build_facts.specs.FactModels.{RuleModel}
use Rattle.krates_build_facts.specs.Steps.{step_view}
use Rattle.krates_build_checkers.specs.GivenFacts.{IsKept, IsOpen, facts_of_set}
use Rattle.krates_build_checkers.specs.declared.sought.Sought.{Sought}
use Rattle.krates_build_checkers.specs.declared.sought.Sought.TheVariants as soughts

-- the instance is sought
abbrev pub IsSought : Sought → RuleModel → Type 0
IsSought (soughts.Step step) row = row ≡ step_view step.now
IsSought (soughts.Open given) row = IsOpen (facts_of_set given.now) row

-- it isn't
abbrev pub IsPassedOver : Sought → RuleModel → Type 0
IsPassedOver (soughts.Step step) row = row ≢ step_view step.now
IsPassedOver (soughts.Open given) row = IsKept (facts_of_set given.now) row

-- the answer is whether one of these instances is sought
pub record Finds (answer : Bool) (sought : Sought) (rows : List RuleModel) : Type 0 where
  pub found : answer ≡ true → (row : RuleModel) × Contains rows row × IsSought sought row
  pub missed : answer ≡ false → (row : RuleModel) → Contains rows row → IsPassedOver sought row
