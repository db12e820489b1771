use Rattle.std.proofs.Common.{◌≡◌, drop}
use Rattle.krates_document.specs.FoldedNames.{folded_order}
use Rattle.krates_document.proofs.folded_name.folded_order.Given as goal

-- the rest of both names decides
abbrev pub invariant-loop-at : goal.invariant-loop-at
invariant-loop-at l = folded_order (drop l.at l.ours) (drop l.at l.theirs) ≡ folded_order l.ours l.theirs
