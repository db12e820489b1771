use Rattle.std.proofs.Common.{◌↔◌, ◌<◌, [], ℕ, IsTrue}
use Rattle.std.specs.BTreeSet.{contains}
use Rattle.std.specs.Ordering.{nat_cmp}
use Rattle.krates_answers.specs.Order.{CanFollow}
use Rattle.krates_answers.proofs.direct_links.DirectLinks.without_needs.Given as goal

-- those so far that lead to none
abbrev pub invariant-loop-number : goal.invariant-loop-number
invariant-loop-number l = (n : ℕ) → IsTrue (contains nat_cmp l.ready n) ↔ (n < l.number × CanFollow l.self [] n)
