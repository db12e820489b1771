use Rattle.std.proofs.Common.{map, take}
use Rattle.krates_answers.specs.Grouped.{AreGroups, groups_in}
use Rattle.krates_answers.proofs.LabelLemmas.{found_with_label}
use Rattle.krates_answers.proofs.labelled.labelled.Given as goal

-- the crates so far, each under its label
abbrev pub invariant-loop-found : goal.invariant-loop-found
invariant-loop-found g l = AreGroups (map (found_with_label g.L.Label.label_of) (take l.found-index l.crates)) (groups_in l.groups)
