use Rattle.std.proofs.Common.{[]}
use Rattle.krates_build_answers.specs.Links.{IsLinkOver}
use Rattle.krates_build_answers.proofs.Added.{adds_all, adds_more}
use Rattle.krates_build_answers.proofs.links.links_over.Goals as goal

pub loop-need-preserved : goal.loop-need-preserved
loop-need-preserved c = adds_more (IsLinkOver c.args.units.now.derived) c.args.needs.now c.loop-need.need-index _ [] _ _ c.loop-need-test.true c.loop-need.invariant c.in_ok-add_over.ensures

pub returns : goal.returns
returns c = adds_all (IsLinkOver c.args.units.now.derived) c.args.needs.now c.loop-need.need-index [] _ c.loop-need-test.false c.loop-need.invariant
