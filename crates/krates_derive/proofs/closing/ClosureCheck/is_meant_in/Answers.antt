use Rattle.std.proofs.Common.{refl}
use Rattle.krates_derive.proofs.closing.ClosureCheck.is_meant_in.Goals as goal

pub returns-then-not-has_between : goal.returns-then-not-has_between
returns-then-not-has_between c = (λ t e kept from to. absurd (cc (c.has_between.ensures.1 (e, kept, from, to), c.if-not-has_between.true)), λ h. refl)

pub returns : goal.returns
returns c = (
  λ t e kept from to. c.is_toggled_in.ensures.0 t,
  λ h. (let w = c.has_between.ensures.0 c.if-not-has_between.false in c.is_toggled_in.ensures.1 (h w.0 w.1 w.2 w.3)),
)
