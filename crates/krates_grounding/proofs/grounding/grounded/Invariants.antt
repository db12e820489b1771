use Rattle.std.proofs.Common.{◌-◌, ◌^◌}
use Rattle.krates_grounding.proofs.GroundingSteps.{IsGroundedUpTo}
use Rattle.krates_grounding.proofs.grounding.grounded.Given as goal

-- the instances that begin with the facts so far are written
abbrev pub invariant-loop-fact : goal.invariant-loop-fact
invariant-loop-fact l = IsGroundedUpTo l.tables l.ground l.next

abbrev pub decreases-loop-fact : goal.decreases-loop-fact
decreases-loop-fact l = 2 ^ 64 - l.next
