-- What a graph holds, and how its edges are numbered.
use Rattle.std.specs.Prelude.{ℕ, ◌<◌, ◌==◌, List, Bool, Result, Ok, Err, filter, map, option_map, slice_get}
use Rattle.std.specs.List.{enumerate_from, filter_map}
use Rattle.krates_graph.specs.declared.graph.edge.Direction.{Direction}
use Rattle.krates_graph.specs.declared.graph.edge.Direction.TheVariants.{Outgoing, Incoming}
use Rattle.krates_graph.specs.declared.graph.edge.GraphEdge.{GraphEdge}
use Rattle.krates_graph.specs.declared.graph.edges_directed.EdgeReference.{EdgeReference}
use Rattle.krates_graph.specs.declared.graph.graph_error.GraphError.{GraphError}
use Rattle.krates_graph.specs.declared.graph.graph_error.GraphError.TheVariants.{Full, Memory}

-- what a graph holds: its nodes and its edges, in the order in which they were added, and how many it may hold of each
pub record StoredGraph (N E : Type 0) : Type 0 where
  pub nodes : List N
  pub edges : List (GraphEdge E)
  pub node_limit : ℕ
  pub edge_limit : ℕ

-- the node at which an edge is found in a direction: the one that it leaves, or the one that it enters
abbrev pub end_of : {E : Type 0} → Direction → GraphEdge E → ℕ
end_of Outgoing edge = edge.source
end_of Incoming edge = edge.target

-- whether a numbered edge is one of the node's, in that direction
abbrev pub is_at : {E : Type 0} → ℕ → Direction → ℕ × GraphEdge E → Bool
is_at node direction pair = end_of direction pair.1 == node

-- the edges of a node in one direction, each with its number, by increasing number
abbrev pub edges_at : {E : Type 0} → List (GraphEdge E) → ℕ → Direction → List (ℕ × GraphEdge E)
edges_at edges node direction = filter (is_at node direction) (enumerate_from 0 edges)

-- their numbers
abbrev pub numbers_at : {E : Type 0} → List (GraphEdge E) → ℕ → Direction → List ℕ
numbers_at edges node direction = map (λ pair. pair.0) (edges_at edges node direction)

-- the edges with these numbers, each with its number
abbrev pub numbered : {E : Type 0} → List (GraphEdge E) → List ℕ → List (ℕ × GraphEdge E)
numbered edges numbers = filter_map (λ number. option_map (λ edge. (number, edge)) (slice_get edges number)) numbers

-- the edge that a reference shows
abbrev pub edge_of : {E : Type 0} → EdgeReference E → GraphEdge E
edge_of r = record { source = r.source; target = r.target; weight = r.weight.now }

-- that edge, with its number
abbrev pub numbered_edge : {E : Type 0} → EdgeReference E → ℕ × GraphEdge E
numbered_edge r = (r.id, edge_of r)

-- both ends are among the first n nodes
abbrev pub HasEnds : {E : Type 0} → ℕ → GraphEdge E → Type 0
HasEnds n edge = (edge.source < n) × (edge.target < n)

-- the value that a refusal gives back
abbrev pub value_in : {T : Type 0} → GraphError T → T
value_in (Full value) = value
value_in (Memory value) = value

-- refused because a limit is reached
abbrev pub IsFull : {A T : Type 0} → Result A (GraphError T) → Type 0
IsFull (Ok _) = ⊥
IsFull (Err (Full _)) = Unit {0}
IsFull (Err (Memory _)) = ⊥
