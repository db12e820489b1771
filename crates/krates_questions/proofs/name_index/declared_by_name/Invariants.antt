use Rattle.std.proofs.Common.{map, take}
use Rattle.std.specs.List.{AllZip}
use Rattle.krates_cm.specs.Document.{package_view}
use Rattle.krates_questions.specs.NameIndex.{AreDeclaredIn, lists_in}
use Rattle.krates_questions.proofs.name_index.declared_by_name.Given as goal

-- the packages so far have their dependencies by name
abbrev pub invariant-loop-pkg : goal.invariant-loop-pkg
invariant-loop-pkg l = AllZip AreDeclaredIn (map package_view (take l.pkg-index l.packages)) (lists_in l.lists)
