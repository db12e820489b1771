use Rattle.std.proofs.Common.{take}
use Rattle.krates_answers.proofs.PairedNumbers.{AreThosePaired}
use Rattle.krates_answers.proofs.direct_links.paired_with.Given as goal

-- those of the pairs so far
abbrev pub invariant-loop-pair : goal.invariant-loop-pair
invariant-loop-pair l = AreThosePaired l.count l.number (take l.pair-index l.pairs) l.numbers.items
