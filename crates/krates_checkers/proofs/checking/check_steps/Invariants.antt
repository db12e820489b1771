use Rattle.std.proofs.Common.{◌≡◌, ℕ, ◌<◌, Some}
use Rattle.std.specs.List.{slice_get}
use Rattle.krates_rules.specs.StepViews.{steps_view}
use Rattle.krates_rules.specs.Steps.{StepModel, StepFollows}
use Rattle.krates_questions.specs.Context.{rules_of}
use Rattle.krates_checkers.proofs.checking.check_steps.Given as goal

-- each step so far follows
abbrev pub invariant-loop-number : goal.invariant-loop-number
invariant-loop-number l = (k : ℕ) (x : StepModel) → k < l.number → slice_get (steps_view l.steps) k ≡ Some x → StepFollows (rules_of l.context) (steps_view l.steps) k x
