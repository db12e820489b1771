use Rattle.std.proofs.Common.{◌≡◌, length, map, take}
use Rattle.std.specs.List.{AllZip}
use Rattle.krates_drawing.specs.Stored.{IsStoredAs}
use Rattle.krates_drawing.specs.Views.{planned_edge_view}
use Rattle.krates_drawing.proofs.store.store_edges.Given as goal

abbrev pub invariant-loop-x : goal.invariant-loop-x
invariant-loop-x g l = record {
  drawn : AllZip (IsStoredAs g.E.FromEdge.made_from_edge) (map planned_edge_view (take l.x-index l.planned_edges)) l.graph.edges;
  count : length l.graph.edges ≡ l.x-index;
  rest : l.graph ≡ record l.fn.graph { edges = l.graph.edges };
}
