use Rattle.krates_report.specs.Builds.{IsDivisionOf}
use Rattle.krates_report.proofs.BuildsWithoutIndex.{division_of}
use Rattle.krates_report.proofs.OthersLemmas.{called_with, divided_of}
use Rattle.krates_report.proofs.reporter.Reporter.divided.Goals as goal

pub returns : goal.returns
returns c =
    let b = c.under-builder.result in
    let choice = c.args.self.now.choice.now in
    divided_of c.beside.result c.in_ok-krates.krates _ (IsDivisionOf c.args.metadata choice) c.beside.ensures.graph c.beside.ensures.others
    (λ whole. division_of _ _ c.args.metadata b.setting _ _ c.in_ok-krates.krates b.index choice c.in-Ok.setting _ c.under-builder.ensures.index
    c.under-builder.ensures.setting c.in-Ok.ensures (called_with _ _ c.new.ensures.items whole) c.in_ok-krates.ensures.built)
