use Rattle.std.proofs.Common.{refl, sym}
use Rattle.krates_built.proofs.visit_order.has_differing.Goals as goal

pub returns-then-differs : goal.returns-then-differs
returns-then-differs c = (
  λ t. record { link = c.link-item.result; among = (c.loop-link.link-index, c.loop-link-test.true, sym c.link-item.is); differs = c.differs.ensures.0 c.if-differs.true },
  λ h. refl,
)
