use Rattle.std.proofs.Common.{◌≡◌, [], replicate}
use Rattle.krates_answers.specs.DirectLinks.{items_of}
use Rattle.krates_answers.proofs.direct_links.empty_lists.Given as goal

abbrev pub invariant-loop-list : goal.invariant-loop-list
invariant-loop-list l = items_of l.lists.items ≡ replicate l._list []
