use Rattle.std.proofs.Common.{map, take}
use Rattle.std.specs.List.{AllZip}
use Rattle.krates_cm.specs.Document.{node_view}
use Rattle.krates_questions.specs.NameIndex.{AreDepsOf, lists_in}
use Rattle.krates_questions.proofs.name_index.deps_by_name.Given as goal

-- the nodes so far have their dependencies by name
abbrev pub invariant-loop-node : goal.invariant-loop-node
invariant-loop-node l = AllZip AreDepsOf (map node_view (take l.node-index l.nodes)) (lists_in l.lists)
