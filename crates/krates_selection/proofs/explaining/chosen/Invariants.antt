use Rattle.krates_selection.specs.KeptFacts.{IsChosenIn}
use Rattle.krates_selection.proofs.PickedSteps.{EachSoFar}
use Rattle.krates_selection.proofs.explaining.chosen.Given as goal

-- each step so far is the chosen one
abbrev pub invariant-loop-place : goal.invariant-loop-place
invariant-loop-place l = EachSoFar (IsChosenIn l.keys l.steps l.part.chosen.items l.part.uses.items) l.place l.kept.items
