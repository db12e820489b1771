use Rattle.std.proofs.Common.{refl}
use Rattle.krates_build_answers.specs.BuiltTwice.{IsOneSidedOf}
use Rattle.krates_build_answers.proofs.SomeElements.{none_more, none_there}
use Rattle.krates_build_answers.proofs.TwiceBuilt.{one_sided_there}
use Rattle.krates_build_answers.proofs.twice.has_one_sided_among.Goals as goal

pub returns-then-is_one_sided_of : goal.returns-then-is_one_sided_of
returns-then-is_one_sided_of c = (λ t. (_, (c.is_one_sided_of.ensures.0 c.if-is_one_sided_of.true).one_sided), λ h. refl)

pub loop-feature-preserved : goal.loop-feature-preserved
loop-feature-preserved c =
    none_more (IsOneSidedOf c.args.units.now.derived c.args.krate) c.args.features.now c.loop-feature.feature-index _ c.is_one_sided_of.result c.loop-feature-test.true
    c.loop-feature.invariant c.is_one_sided_of.ensures c.if-is_one_sided_of.false

pub returns : goal.returns
returns c =
    let t = c.args.units.now.derived in
    let features = c.args.features.now in (
      λ yes. absurd cc,
      λ h. absurd (none_there (IsOneSidedOf t c.args.krate) features c.loop-feature.feature-index c.loop-feature-test.false c.loop-feature.invariant
          (one_sided_there t c.args.krate features c.requires h)),
    )
