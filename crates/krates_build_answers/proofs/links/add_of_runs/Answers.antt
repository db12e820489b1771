use Rattle.krates_build_answers.specs.Links.{IsOfRun}
use Rattle.krates_build_answers.proofs.Added.{adds_all, adds_more}
use Rattle.krates_build_answers.proofs.links.add_of_runs.Goals as goal

pub loop-run-preserved : goal.loop-run-preserved
loop-run-preserved c =
    adds_more (IsOfRun c.args.units.now.derived c.args.need.now c.args.link.now) c.args.runs.now c.loop-run.run-index _ c.args.links.now.items _ _ c.loop-run-test.true c.loop-run.invariant
    c.in_ok-add_of_run.ensures

pub returns : goal.returns
returns c = adds_all (IsOfRun c.args.units.now.derived c.args.need.now c.args.link.now) c.args.runs.now c.loop-run.run-index c.args.links.now.items _ c.loop-run-test.false c.loop-run.invariant
