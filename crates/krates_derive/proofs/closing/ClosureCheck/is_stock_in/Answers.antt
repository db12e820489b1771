use Rattle.krates_derive.proofs.closing.ClosureCheck.is_stock_in.Goals as goal

pub returns-then-has_crate : goal.returns-then-has_crate
returns-then-has_crate c = (
  λ t. (c.has_crate.ensures.0 c.if-has_crate.true, λ f listed. (c.are_names_in.ensures.0 t f ((c.features-names.ensures f).0 listed)).enabled listed),
  λ w. c.are_names_in.ensures.1 (λ f among. (let listed = (c.features-names.ensures f).1 among in record { enabled = w.1 f; listed = λ lacks. lacks listed })),
)
