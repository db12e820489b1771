use Rattle.std.proofs.Common.{ℕ, Contains, take}
use Rattle.krates_answers.specs.Order.{IsMarked}
use Rattle.krates_answers.proofs.direct_links.DirectLinks.unmarked_need.Given as goal

-- those so far have marks
abbrev pub invariant-loop-need : goal.invariant-loop-need
invariant-loop-need l = (m : ℕ) → Contains (take l.need-index l.needs) m → IsMarked l.marks m
