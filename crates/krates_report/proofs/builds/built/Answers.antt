use Rattle.krates_report.proofs.BuildsWithoutIndex.{build_of}
use Rattle.krates_report.proofs.builds.built.Goals as goal

pub returns-in_ok-krates-in-Ok : goal.returns-in_ok-krates-in-Ok
returns-in_ok-krates-in-Ok c =
    let b = c.under-builder.result in
    build_of _ _ c.args.metadata b.setting _ _ c.in_ok-krates-in-Ok.krates b.index c.args.choice.now c.args.also_ignored.now c.in-Ok.setting c.under-builder.ensures.index
    c.under-builder.ensures.setting c.in-Ok.ensures c.in_ok-krates-in-Ok.ensures.built
