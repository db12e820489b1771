use Rattle.krates_report.proofs.builds.copy_built.Goals as goal

pub returns : goal.returns
returns c = rw c.in_ok-copy.ensures.cases at c.built.ensures
