use Rattle.std.proofs.Common.{◌+◌, length, reverse}
use Rattle.krates_answers.specs.Tree.{roots_among}
use Rattle.krates_answers.proofs.TreeSoFar.{IsTreeSoFar}
use Rattle.krates_answers.proofs.Unopened.{unopened}
use Rattle.krates_answers.proofs.direct_links.DirectLinks.tree.Given as goal

abbrev pub invariant-loop-next : goal.invariant-loop-next
invariant-loop-next l = IsTreeSoFar l.self (roots_among l.self l.fn.roots) l.is_opened.items l.lines.items (reverse l.waiting.items)

-- each turn takes a line that waits, and adds as many as it takes from what is not opened yet
abbrev pub decreases-loop-next : goal.decreases-loop-next
decreases-loop-next l = length l.waiting.items + unopened l.is_opened.items l.self
