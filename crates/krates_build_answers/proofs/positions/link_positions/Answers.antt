use Rattle.std.proofs.Common.{[]}
use Rattle.krates_build_answers.specs.Positions.{StandsAt}
use Rattle.krates_build_answers.proofs.Added.{adds_all, adds_more}
use Rattle.krates_build_answers.proofs.LinkPositions.{all_positions}
use Rattle.krates_build_answers.proofs.positions.link_positions.Goals as goal

pub loop-link-preserved : goal.loop-link-preserved
loop-link-preserved c = adds_more (StandsAt c.args.built.now) c.args.links.now c.loop-link.link-index _ [] _ _ c.loop-link-test.true c.loop-link.invariant c.in_ok-add_positions.ensures

pub returns : goal.returns
returns c = all_positions c.args.built.now c.args.links.now _ (adds_all (StandsAt c.args.built.now) c.args.links.now c.loop-link.link-index [] _ c.loop-link-test.false c.loop-link.invariant)
