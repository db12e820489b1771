use Rattle.std.proofs.Common.{refl}
use Rattle.krates_build_answers.specs.BuiltTwice.{IsUnitOn}
use Rattle.krates_build_answers.proofs.SomeElements.{none_there, some_here}
use Rattle.krates_build_answers.proofs.twice.has_unit.Goals as goal

pub returns-then-is_unit_on : goal.returns-then-is_unit_on
returns-then-is_unit_on c = (λ t. some_here (IsUnitOn c.args.krate c.args.side) c.args.units.now c.loop-unit.unit-index _ c.loop-unit-test.true (c.is_unit_on.ensures.0 c.if-is_unit_on.true), λ a. refl)

pub returns : goal.returns
returns c = (λ t. absurd cc, λ a. absurd (none_there (IsUnitOn c.args.krate c.args.side) c.args.units.now c.loop-unit.unit-index c.loop-unit-test.false c.loop-unit.invariant a))
