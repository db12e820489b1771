use Rattle.std.proofs.Common.{◌≡◌, map, replicate, take, None}
use Rattle.krates_drawing.proofs.numbers.NumberedOutline.unmapped.Given as goal

abbrev pub invariant-loop-krate : goal.invariant-loop-krate
invariant-loop-krate l = map (λ m. m.items) l.unmapped.items ≡ map (λ k. replicate k.declared None) (take l.krate-index l.krate-items)
