use Rattle.std.proofs.Common.{◌≡◌, refl}
use Rattle.krates_build_answers.specs.declared.built_crates.BuiltCrate.{BuiltCrate}
use Rattle.krates_build_answers.proofs.SomeElements.{none_there, some_here}
use Rattle.krates_build_answers.proofs.built_crates.has_crate.Goals as goal

pub returns : goal.returns
returns c = (λ t. absurd cc, λ a. absurd (none_there (λ (x : BuiltCrate). x.krate ≡ c.args.krate) c.args.places.now c.loop-place.place-index c.loop-place-test.false c.loop-place.invariant a))

pub returns-then-place-krate : goal.returns-then-place-krate
returns-then-place-krate c = (λ t. some_here (λ (x : BuiltCrate). x.krate ≡ c.args.krate) c.args.places.now c.loop-place.place-index _ c.loop-place-test.true c.if-place-krate.true, λ a. refl)
