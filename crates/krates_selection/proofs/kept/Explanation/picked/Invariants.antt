use Rattle.std.proofs.Common.{All}
use Rattle.krates_rules.specs.declared.derivation.Step.{Step}
use Rattle.krates_selection.specs.KeptFacts.{HasTheseIds, kids_of}
use Rattle.krates_selection.proofs.PickedSteps.{EachSoFar, IsPickedStep}
use Rattle.krates_selection.proofs.kept.Explanation.picked.Given as goal

-- each step so far is the chosen one, and its crates have these ids
abbrev pub invariant-loop-place : goal.invariant-loop-place
invariant-loop-place l =
    EachSoFar (IsPickedStep l.self l.part.chosen.items l.part.uses.items) l.place l.steps.items
    × All (λ (x : Step). HasTheseIds (kids_of l.self) x.fact) l.steps.items
