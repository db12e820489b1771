use Rattle.std.proofs.Common.{refl}
use Rattle.krates_build_answers.specs.BuiltCrates.{IsForMachine}
use Rattle.krates_build_answers.proofs.SomeElements.{none_more, none_there, some_here}
use Rattle.krates_build_answers.proofs.built_crates.has_machine.Goals as goal

pub returns : goal.returns
returns c = (λ t. absurd cc, λ a. absurd (none_there (IsForMachine c.args.krate) c.args.places.now c.loop-place.place-index c.loop-place-test.false c.loop-place.invariant a))

pub returns-then-is_for_machine : goal.returns-then-is_for_machine
returns-then-is_for_machine c = (λ t. some_here (IsForMachine c.args.krate) c.args.places.now c.loop-place.place-index _ c.loop-place-test.true (c.is_for_machine.ensures.0 c.if-is_for_machine.true), λ a. refl)

pub loop-place-preserved : goal.loop-place-preserved
loop-place-preserved c = none_more (IsForMachine c.args.krate) c.args.places.now c.loop-place.place-index _ c.is_for_machine.result c.loop-place-test.true c.loop-place.invariant c.is_for_machine.ensures c.if-is_for_machine.false
