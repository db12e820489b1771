use Rattle.std.proofs.Common.{map, take}
use Rattle.std.specs.List.{AllZip}
use Rattle.krates_cm.specs.Document.{node_view}
use Rattle.krates_search.specs.Links.{AreNewLinks}
use Rattle.krates_search.proofs.links.links_of.Given as goal

-- the nodes so far have their links
abbrev pub invariant-loop-node : goal.invariant-loop-node
invariant-loop-node l = AllZip AreNewLinks (map node_view (take l.node-index l.node-items)) (map (λ links. links.items) l.of_nodes.items)
