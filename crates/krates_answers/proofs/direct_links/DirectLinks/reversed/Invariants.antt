use Rattle.std.proofs.Common.{◌≡◌, length, take}
use Rattle.krates_answers.specs.DirectLinks.{IsListed, items_of}
use Rattle.krates_answers.proofs.ListedNumbers.{AreEach}
use Rattle.krates_answers.proofs.direct_links.DirectLinks.reversed.Given as goal

-- the lists that were taken are turned round
abbrev pub invariant-loop-number : goal.invariant-loop-number
invariant-loop-number l =
    (length l.lists.items ≡ length l.list-items)
    × AreEach (λ a b. IsListed (take l.number (items_of l.list-items)) b a) (items_of l.lists.items)
