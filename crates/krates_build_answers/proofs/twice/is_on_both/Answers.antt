use Rattle.std.proofs.Common.{sym, ◌∙◌}
use Rattle.std.proofs.lemmas.Bool.{false≢true}
use Rattle.krates_units.specs.declared.sides.Side.TheVariants as sides
use Rattle.krates_build_answers.specs.BuiltTwice.{IsBuiltOn}
use Rattle.krates_build_answers.proofs.TwiceBuilt.{both_sides}
use Rattle.krates_build_answers.proofs.twice.is_on_both.Goals as goal

pub returns-then-is_on : goal.returns-then-is_on
returns-then-is_on c = (
  λ t. both_sides (IsBuiltOn c.args.units.now.derived c.args.krate) (c.is_on.ensures.0 c.if-is_on.true) (c.is_on-then-is_on.ensures.0 t),
  λ h. c.is_on-then-is_on.ensures.1 (h sides.Host),
)

pub returns-else-is_on : goal.returns-else-is_on
returns-else-is_on c = (λ t. absurd (false≢true (sym c.if-is_on.false ∙ t)), λ h. c.is_on.ensures.1 (h sides.Targets))
