use Rattle.std.proofs.Common.{arith}
use Rattle.std.proofs.lemmas.Grind.{elements}
use Rattle.krates_ids.proofs.SpecificationLemmas.{Splits-at}
use Rattle.krates_ids.proofs.pkgspec.split.Goals as goal

pub returns-then-has : goal.returns-then-has
returns-then-has c =
    Splits-at _ _ _ _ c.in-Some.ensures (rw c.if-has.true at c.has.ensures) c.cut_first-then-has.ensures

pub returns-in_default : goal.returns-in_default
returns-in_default c = grind (arith, elements)
