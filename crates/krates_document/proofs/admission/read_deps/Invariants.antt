use Rattle.std.proofs.Common.{map, take}
use Rattle.std.specs.List.{AllZip}
use Rattle.krates_cm.specs.Document.{node_view}
use Rattle.krates_document.specs.IdLists.{kids_in, versions_in}
use Rattle.krates_rules.specs.Admission.{AreDepIds, HasThisVersion}
use Rattle.krates_document.proofs.admission.read_deps.Given as goal

-- the ids of the dependencies of the nodes so far are read, and their versions too
abbrev pub invariant-loop-node : goal.invariant-loop-node
invariant-loop-node l = record {
  read : AllZip AreDepIds (map node_view (take l.node-index l.nodes)) (kids_in l.kids);
  versions : AllZip (AllZip HasThisVersion) (kids_in l.kids) (versions_in l.versions);
}
