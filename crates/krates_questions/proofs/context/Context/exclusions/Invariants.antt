use Rattle.std.proofs.Common.{map, take}
use Rattle.std.specs.List.{AllZip}
use Rattle.krates_cm.specs.Document.{package_view}
use Rattle.krates_questions.specs.Availability.{TellsExcluded}
use Rattle.krates_questions.proofs.context.Context.exclusions.Given as goal

-- whether each package so far is excluded
abbrev pub invariant-loop-pkg : goal.invariant-loop-pkg
invariant-loop-pkg l = AllZip (TellsExcluded l.self.setting.now) (map package_view (take l.pkg-index l.packages)) l.answers.items
