use Rattle.std.proofs.Common.{refl}
use Rattle.krates_derive.proofs.closing.ClosureCheck.is_default_in.Goals as goal

pub returns-then-not-lists : goal.returns-then-not-lists
returns-then-not-lists c = (λ t uses l. absurd (cc (c.lists.ensures.1 l, c.if-not-lists.true)), λ h. refl)

pub returns : goal.returns
returns c = (λ t uses l. c.has_feature.ensures.0 t, λ h. c.has_feature.ensures.1 (h c.if-not-uses.false (c.lists.ensures.0 c.if-not-lists.false)))
