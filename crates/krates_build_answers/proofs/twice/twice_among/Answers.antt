use Rattle.std.proofs.Common.{[]}
use Rattle.krates_build_answers.specs.BuiltTwice.{IsThisTwice}
use Rattle.krates_build_answers.proofs.Added.{adds_all, adds_more}
use Rattle.krates_build_answers.proofs.twice.twice_among.Goals as goal

pub loop-krate-preserved : goal.loop-krate-preserved
loop-krate-preserved c =
    adds_more (IsThisTwice c.args.units.now.derived) c.args.krates.now c.loop-krate.krate-index _ [] _ _ c.loop-krate-test.true c.loop-krate.invariant c.in_ok-add_if_twice.ensures

pub returns : goal.returns
returns c = adds_all (IsThisTwice c.args.units.now.derived) c.args.krates.now c.loop-krate.krate-index [] _ c.loop-krate-test.false c.loop-krate.invariant
