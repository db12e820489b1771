use Rattle.std.proofs.Common.{take}
use Rattle.krates_answers.specs.Compared.{IsLackedBy}
use Rattle.krates_answers.specs.Those.{AreThose}
use Rattle.krates_answers.proofs.compared.lacking.Given as goal

-- those of the parts so far
abbrev pub invariant-loop-part : goal.invariant-loop-part
invariant-loop-part g l = AreThose (IsLackedBy g.T.Part.MeansSame l.root l.other_root l.others) (take l.part-index l.parts) l.lacking.items
