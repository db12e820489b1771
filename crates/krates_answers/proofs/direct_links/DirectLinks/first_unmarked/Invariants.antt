use Rattle.std.proofs.Common.{ℕ, ◌<◌}
use Rattle.krates_answers.specs.Order.{IsMarked}
use Rattle.krates_answers.proofs.direct_links.DirectLinks.first_unmarked.Given as goal

-- those so far have marks
abbrev pub invariant-loop-number : goal.invariant-loop-number
invariant-loop-number l = (n : ℕ) → n < l.number → IsMarked l.marks n
