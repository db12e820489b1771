-- What is reached along edges: numbers of nodes, in the direction of the edges or against it, and the crates among them.
use Rattle.std.specs.Prelude.{◌≡◌, ℕ, ◌++◌, List, Contains, Some, slice_get, ◌↔◌, ◌<◌, Bool, IsTrue, length, map, All}
use Rattle.krates_graph.specs.Agenda.{PutNumbers}
use Rattle.krates_graph.specs.Graph.{end_of, HasEnds}
use Rattle.krates_graph.specs.declared.graph.edge.Direction.{Direction}
use Rattle.krates_graph.specs.declared.graph.edge.Direction.TheVariants.{Outgoing, Incoming}
use Rattle.krates_graph.specs.declared.graph.edge.GraphEdge.{GraphEdge}
use Rattle.krates_drawing.specs.Paths.{Reaches, LeadsWithout}
use Rattle.krates_queries.specs.Direct.{HasEdge, value_at, AreConnected, Joined, AreDependents}
use Rattle.krates_drawing.specs.declared.node.Node.{Node}
use Rattle.std.specs.List.Sorted.{IsStrictlySortedBy}
use Rattle.std.specs.Ordering.{nat_cmp}
use Rattle.krates_queries.specs.KrateNodes.{Match, numbered_crates}
use Rattle.std.specs.List.{filter_map}
use Rattle.krates_drawing.specs.Drawing.{PlannedEdge}
use Rattle.krates_drawing.specs.Views.{tie_view}
use Rattle.krates_drawing.specs.declared.edge.Edge.{Edge}
use Rattle.krates_rules.specs.declared.kind.DepKind.{DepKind}

-- the other node of an edge that is found in a direction: the one that it enters, or the one that it leaves
abbrev pub far_end : {E : Type 0} → Direction → GraphEdge E → ℕ
far_end Outgoing edge = edge.target
far_end Incoming edge = edge.source

-- an edge that passes is found at n in the direction, and m is its other end
pub record IsNext {E : Type 0} (Passes : E → Type 0) (edges : List (GraphEdge E)) (d : Direction) (n m : ℕ) : Type 0 where
  pub edge : GraphEdge E
  pub among : Contains edges edge
  pub passes : Passes edge.weight
  pub near : end_of d edge ≡ n
  pub far : far_end d edge ≡ m

-- ---- steps

-- the edge of number k passes, and n is its other end
pub record IsFarEnd {E : Type 0} (Passes : E → Type 0) (edges : List (GraphEdge E)) (d : Direction) (k n : ℕ) : Type 0 where
  pub edge : GraphEdge E
  pub at : slice_get edges k ≡ Some edge
  pub passes : Passes edge.weight
  pub far : far_end d edge ≡ n

-- one of the edges with these numbers does
pub record IsFarEndOf {E : Type 0} (Passes : E → Type 0) (edges : List (GraphEdge E)) (d : Direction) (numbers : List ℕ) (n : ℕ) : Type 0 where
  pub number : ℕ
  pub among : Contains numbers number
  pub end : IsFarEnd Passes edges d number n

-- exactly these numbers were put, besides those that had been
pub record Grows (New : ℕ → Type 0) (old new : PutNumbers) : Type 0 where
  pub size : new.size ≡ old.size
  pub taken : new.taken ≡ old.taken
  pub more : List ℕ
  pub kept : new.put ≡ old.put ++ more
  pub right : (n : ℕ) → Contains more n → New n
  pub all : (n : ℕ) → New n → Contains new.put n

-- ---- whether a path leads from one node to another

-- Both numbers are those of nodes, and a path of edges leads from p to d. The path without edges leads from p to p.
pub record HasPath {N E : Type 0} (nodes : List (Node N)) (edges : List (GraphEdge E)) (p d : ℕ) : Type 0 where
  pub from : p < length nodes
  pub to : d < length nodes
  pub path : Reaches (HasEdge edges) (λ n. n ≡ p) d

-- the answer is yes exactly if there is a path
abbrev pub TellsPath : {N E : Type 0} → List (Node N) → List (GraphEdge E) → ℕ → ℕ → Bool → Type 0
TellsPath nodes edges p d answer = IsTrue answer ↔ HasPath nodes edges p d

-- ---- the crates from which a path leads to a node

-- The crates are, by number, each once, exactly those of the kept ones from which a path of edges leads to `d`.
pub record AreAllDependents {N E : Type 0} (nodes : List (Node N)) (edges : List (GraphEdge E)) (d : ℕ) (crates : List (Match N)) : Type 0 where
  pub by_number : IsStrictlySortedBy nat_cmp (map (λ c. c.number) crates)
  pub exactly : (c : Match N) → Contains crates c ↔ (Contains (numbered_crates 0 nodes) c × HasPath nodes edges c.number d)

-- ---- the crates that members reach without edges of a kind

-- the stored edge, as the definition of paths sees it
abbrev pub line_view : GraphEdge Edge → PlannedEdge
line_view e = record { source = e.source; target = e.target; tie = tie_view e.weight }

-- the node is the end of a path that begins at a member and whose edges have no kind or another
abbrev pub IsReached : DepKind → List (GraphEdge Edge) → List ℕ → ℕ → Type 0
IsReached kind edges members = Reaches (LeadsWithout kind (map line_view edges)) (Contains members)

-- The values are those of the crates that are reached, each once, by number.
pub record AreReached {N : Type 0} (kind : DepKind) (nodes : List (Node N)) (edges : List (GraphEdge Edge)) (members : List ℕ) (values : List N) : Type 0 where
  pub numbers : List ℕ
  pub by_number : IsStrictlySortedBy nat_cmp numbers
  pub exactly : (n : ℕ) → Contains numbers n ↔ IsReached kind edges members n
  pub are : values ≡ filter_map (value_at nodes) numbers

-- ---- laws: what the queries for dependents and for paths answer about one graph

-- A kept crate is among all dependents of a node exactly if it reaches the node, by the query's answer.
abbrev pub DependentsReach : {N E : Type 0} → List (Node N) → List (GraphEdge E) → Type 0
DependentsReach {N} nodes edges = (d : ℕ) (all : List (Match N)) → AreAllDependents nodes edges d all
    → (c : Match N) → Contains (numbered_crates 0 nodes) c → (answer : Bool) → TellsPath nodes edges c.number d answer → IsTrue answer ↔ Contains all c

-- In a graph as builds keep it, each direct dependent of a node is among all of its dependents.
abbrev pub DirectAreAmongAll : {N E : Type 0} → List (Node N) → List (GraphEdge E) → Type 0
DirectAreAmongAll {N} nodes edges = AreConnected nodes edges → All (HasEnds (length nodes)) edges
    → (d : ℕ) (direct : List (Joined N)) → AreDependents nodes edges d direct → (all : List (Match N)) → AreAllDependents nodes edges d all
    → (j : Joined N) → Contains direct j → Contains (map (λ c. c.number) all) j.node
