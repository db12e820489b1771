use Rattle.krates_build_answers.proofs.twice.is_built_twice.Goals as goal

pub returns-then-is_on_both : goal.returns-then-is_on_both
returns-then-is_on_both c = (
  λ t. record { each = c.is_on_both.ensures.0 c.if-is_on_both.true; differ = c.has_one_sided.ensures.0 t },
  λ h. c.has_one_sided.ensures.1 h.differ,
)
