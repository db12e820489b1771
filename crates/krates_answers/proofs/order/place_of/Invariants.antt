use Rattle.std.proofs.Common.{Contains, take}
use Rattle.krates_answers.proofs.order.place_of.Given as goal

-- it isn't among those so far
abbrev pub invariant-loop-place : goal.invariant-loop-place
invariant-loop-place l = Contains (take l.place l.numbers) l.number → ⊥
