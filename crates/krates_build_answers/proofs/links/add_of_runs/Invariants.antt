use Rattle.std.proofs.Common.{take}
use Rattle.krates_build_answers.specs.Adding.{Adds, IsOfSome}
use Rattle.krates_build_answers.specs.Links.{IsOfRun}
use Rattle.krates_build_answers.proofs.links.add_of_runs.Given as goal

-- those of the runs so far are added
abbrev pub invariant-loop-run : goal.invariant-loop-run
invariant-loop-run l = Adds (IsOfSome (IsOfRun l.units.derived l.need l.link) (take l.run-index l.runs)) l.fn.links.items l.links.items
