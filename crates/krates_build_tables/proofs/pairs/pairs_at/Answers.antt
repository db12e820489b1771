use Rattle.std.proofs.Common.{arith}
use Rattle.std.proofs.lemmas.Result.{IfOk-weaker}
use Rattle.krates_build_tables.proofs.pairs.pairs_at.Goals as goal

pub returns-then-fits_child : goal.returns-then-fits_child
returns-then-fits_child c =
    IfOk-weaker c.pairs_by.result _ _ (λ pairs told b. (λ h. (told b).0 h.1, λ h. (c.fits_child.ensures.0 c.if-fits_child.true, (told b).1 h))) c.pairs_by.ensures

pub returns-else-fits_child : goal.returns-else-fits_child
returns-else-fits_child c = rw c.new.ensures.items (λ b. (λ h. absurd (let y = c.fits_child.ensures.1 h.0 in cc), λ h. absurd (omega (arith, h.1))))
