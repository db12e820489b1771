use Rattle.std.proofs.Common.{◌≡◌, All, take}
use Rattle.krates_rules.specs.StepViews.{facts_view}
use Rattle.krates_selection.specs.KeptFacts.{HasTheseIds, kids_of, facts_in, steps_in}
use Rattle.krates_selection.proofs.kept.Explanation.facts.Given as goal

-- the facts so far are those of the steps so far, and their crates have these ids
abbrev pub invariant-loop-step : goal.invariant-loop-step
invariant-loop-step l =
    (facts_view l.facts.items ≡ facts_in (steps_in (kids_of l.self) (take l.step-index l.step-items)))
    × All (HasTheseIds (kids_of l.self)) l.facts.items
