use Rattle.std.proofs.Common.{map, take}
use Rattle.krates_answers.specs.Compared.{HasSame}
use Rattle.krates_answers.proofs.compared.is_among.Given as goal

-- none so far does
abbrev pub invariant-loop-other : goal.invariant-loop-other
invariant-loop-other g l = HasSame g.T.Part.MeansSame l.root l.part l.other_root (map (λ other. other.now) (take l.other-index l.others)) → ⊥
