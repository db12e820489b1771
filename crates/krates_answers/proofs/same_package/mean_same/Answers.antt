use Rattle.std.proofs.Common.{rules}
use Rattle.krates_answers.proofs.same_package.mean_same.Goals as goal

pub returns-then-eq-2 : goal.returns-then-eq-2
returns-then-eq-2 c = (
  λ t. record { name = search rules; version = search rules; home = c.have_same_home.ensures.0 t },
  λ same. c.have_same_home.ensures.1 same.home,
)
