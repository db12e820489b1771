use Rattle.std.proofs.Common.{take}
use Rattle.krates_answers.specs.DirectLinks.{ArePushed, items_of}
use Rattle.krates_answers.proofs.direct_links.push_to_each.Given as goal

-- the number was pushed to the lists of the places so far
abbrev pub invariant-loop-place : goal.invariant-loop-place
invariant-loop-place l = ArePushed l.number (take l.place-index l.to) (items_of l.fn.lists) (items_of l.lists)
