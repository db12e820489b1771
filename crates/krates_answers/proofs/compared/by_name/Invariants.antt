use Rattle.std.proofs.Common.{take}
use Rattle.krates_answers.specs.Compared.{HoldsNamed}
use Rattle.krates_answers.proofs.compared.by_name.Given as goal

-- the parts so far, under their names
abbrev pub invariant-loop-part : goal.invariant-loop-part
invariant-loop-part g l = HoldsNamed g.T.Part.named (take l.part-index l.parts) l.named
