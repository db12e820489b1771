-- How the lists of edge numbers, which are kept for each node, relate to the edges.
use Rattle.std.specs.Prelude.{◌≡◌, ℕ, ◌<◌, ◌≤◌, List, [], All, length, map, slice_index_or, vec_len, vec_capacity}
use Rattle.std.specs.List.{HoldsAt}
use Rattle.krates_graph.specs.declared.graph.edge.GraphEdge.{GraphEdge}
use Rattle.krates_graph.specs.declared.graph.edge.Direction.{Direction}
use Rattle.krates_graph.specs.declared.graph.edge.Direction.TheVariants.{Outgoing, Incoming}
use Rattle.krates_graph.specs.declared.graph.adjacency.Adjacency.{Adjacency}
use Rattle.krates_graph.specs.Graph.{HasEnds, numbers_at}

-- the list of each node
abbrev pub lists_of : Adjacency → List (List ℕ)
lists_of a = map (λ list. list.items) a.lists.items

-- one more node can be added without memory
abbrev pub HasNodeRoom : Adjacency → Type 0
HasNodeRoom a = vec_len a.lists < vec_capacity a.lists

-- one more edge of the node can be added without memory
abbrev pub HasEdgeRoom : Adjacency → ℕ → Type 0
HasEdgeRoom a node = HoldsAt (λ list. vec_len list < vec_capacity list) a.lists.items node

-- the list of each node has the numbers of its edges; past the nodes there are no lists and no edges
abbrev pub Indexes : {E : Type 0} → List (List ℕ) → List (GraphEdge E) → Direction → Type 0
Indexes lists edges direction = (node : ℕ) → slice_index_or lists node [] ≡ numbers_at edges node direction

-- the parts of a graph fit together
pub record IsIndexed {N E : Type 0} (nodes : List N) (edges : List (GraphEdge E)) (node_limit edge_limit : ℕ) (outgoing incoming : List (List ℕ)) : Type 0 where
  pub nodes_fit : length nodes ≤ node_limit
  pub edges_fit : length edges ≤ edge_limit
  pub ends : All (HasEnds (length nodes)) edges
  pub outgoing_len : length outgoing ≡ length nodes
  pub incoming_len : length incoming ≡ length nodes
  pub outgoing_lists : Indexes outgoing edges Outgoing
  pub incoming_lists : Indexes incoming edges Incoming
