use Rattle.std.proofs.Common.{map, take}
use Rattle.krates_build_facts.specs.Steps.{AreSteps, given_in, step_view}
use Rattle.krates_build_checkers.specs.GivenFacts.{HasFacts}
use Rattle.krates_build_checkers.proofs.checking.check_built.Given as goal

-- each step so far may follow those before it, and the set has what they give
abbrev pub invariant-loop-number : goal.invariant-loop-number
invariant-loop-number l = let before = map step_view (take l.number l.steps) in
    HasFacts l.given (given_in before) × AreSteps l.tables before
