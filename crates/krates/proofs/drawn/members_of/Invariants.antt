use Rattle.std.proofs.Common.{take}
use Rattle.krates_drawing.specs.Node.{crate_ids}
use Rattle.krates.specs.Members.{AreNumbersOf}
use Rattle.krates.proofs.drawn.members_of.Given as goal

-- the numbers of the ids so far
abbrev pub invariant-loop-id : goal.invariant-loop-id
invariant-loop-id g l = AreNumbersOf (crate_ids l.nodes) (take l.id-index l.ids) l.numbers.items
