-- What edges and mappings join to a node: crates with the least edge to each, and what an edge or a mapping leads to.
use Rattle.std.specs.Prelude.{ℕ, ◌==◌, List, Option, option_map, ◌≡◌, ◌≤◌, ◌<◌, ◌^◌, ◌↔◌, length, Bool, false, Some, None, All, Contains, map, slice_get, [], ◌++◌, filter, flat_map}
use Rattle.std.specs.declared.cmp.Ordering.{Ordering}
use Rattle.std.specs.List.{find, filter_map}
use Rattle.std.specs.List.Sorted.{IsSorted, IsStrictlySortedBy}
use Rattle.std.specs.Ordering.{nat_cmp, on, then_cmp}
use Rattle.krates_queries.specs.declared.queries.direct.Neighbour.{Neighbour}
use Rattle.krates_cm.specs.Document.{Text}
use Rattle.krates_drawing.specs.Agreement.{DependsOn, IsOf}
use Rattle.krates_drawing.specs.Drawing.{PlannedFeature}
use Rattle.krates_drawing.specs.Stored.{LeadsAlong}
use Rattle.krates_graph.specs.declared.graph.edge.GraphEdge.{GraphEdge}
use Rattle.krates_drawing.specs.Node.{is_own_feature}
use Rattle.krates_queries.specs.Drawn.{planned_node}
use Rattle.krates_queries.specs.declared.queries.direct.DirectDependency.{DirectDependency}
use Rattle.krates_queries.specs.declared.queries.direct.DirectDependent.{DirectDependent}
use Rattle.krates_drawing.specs.declared.node.Node.{Node}
use Rattle.krates_drawing.specs.declared.node.Node.TheVariants.{Krate, Feature}
use Rattle.krates_graph.specs.declared.graph.edge.Direction.TheVariants.{Outgoing, Incoming}
use Rattle.krates_graph.specs.Graph.{numbers_at}

-- ---- neighbours: crates that edges join to a node, each with one such edge

-- by crate, and then by edge
abbrev pub neighbour_cmp : Neighbour → Neighbour → Ordering
neighbour_cmp = then_cmp (on (λ n. n.krate) nat_cmp) (on (λ n. n.edge) nat_cmp)

abbrev pub AreInOrder : List Neighbour → Type 0
AreInOrder = IsSorted neighbour_cmp

-- the edge of the first of these that is the crate with the number
abbrev pub first_edge : List Neighbour → ℕ → Option ℕ
first_edge neighbours n = option_map (λ x. x.edge) (find (λ x. x.krate == n) neighbours)

-- ---- crates by number

-- the value held for the package of a crate
abbrev pub value_in : {N : Type 0} → Option (Node N) → Option N
value_in None = None
value_in (Some (Krate id krate features mapping)) = Some krate
value_in (Some (Feature krate_index name)) = None

-- the same for the crate with a number
abbrev pub value_at : {N : Type 0} → List (Node N) → ℕ → Option N
value_at nodes n = value_in (slice_get nodes n)

-- ---- joined crates

-- the value held for a crate, the number of the crate, and that of an edge
pub record Joined (N : Type 0) : Type 0 where
  pub krate : N
  pub node : ℕ
  pub edge : ℕ

abbrev pub dependency_view : {N : Type 0} → DirectDependency N → Joined N
dependency_view d = record { krate = d.krate.now; node = d.node_id; edge = d.edge_id }

abbrev pub dependent_view : {N : Type 0} → DirectDependent N → Joined N
dependent_view d = record { krate = d.krate.now; node = d.node_id; edge = d.edge_id }

-- The edge with this number is the least of those that lead from number p to number d or to a feature of d.
pub record IsLeastEdge {N E : Type 0} (nodes : List (Node N)) (edges : List (GraphEdge E)) (p d k : ℕ) : Type 0 where
  pub edge : GraphEdge E
  pub at : slice_get edges k ≡ Some edge
  pub from : edge.source ≡ p
  pub to : IsOf (map planned_node nodes) d edge.target
  pub least : (j : ℕ) (e : GraphEdge E) → slice_get edges j ≡ Some e → e.source ≡ p → IsOf (map planned_node nodes) d e.target → k ≤ j

-- These are exactly the crates whose numbers have the property, each once, by number, each with its value and such an edge.
pub record AreJoined {N : Type 0} (nodes : List (Node N)) (Is : ℕ → Type 0) (IsEdge : ℕ → ℕ → Type 0) (joined : List (Joined N)) : Type 0 where
  pub by_number : IsStrictlySortedBy nat_cmp (map (λ j. j.node) joined)
  pub exactly : (n : ℕ) → Contains (map (λ j. j.node) joined) n ↔ Is n
  pub krates : All (λ j. value_at nodes j.node ≡ Some j.krate) joined
  pub edges : All (λ j. IsEdge j.node j.edge) joined

-- ---- what holds of every graph that is built

-- the number is that of a crate, into which an edge leads from p
pub record IsLedTo {N E : Type 0} (nodes : List (Node N)) (edges : List (GraphEdge E)) (p d : ℕ) : Type 0 where
  pub krate : N
  pub crate : value_at nodes d ≡ Some krate
  pub leads : LeadsAlong (map planned_node nodes) edges p d

-- an edge leads from number p to number d
pub record HasEdge {E : Type 0} (edges : List (GraphEdge E)) (p d : ℕ) : Type 0 where
  pub edge : GraphEdge E
  pub among : Contains edges edge
  pub from : edge.source ≡ p
  pub to : edge.target ≡ d

-- What a mapping names is a crate, and an edge leads into it; from each feature an edge leads to its crate; and the nodes can be
-- numbered.
pub record AreConnected {N E : Type 0} (nodes : List (Node N)) (edges : List (GraphEdge E)) : Type 0 where
  pub mappings : (p d : ℕ) → DependsOn (map planned_node nodes) p d → IsLedTo nodes edges p d
  pub features : (n d : ℕ) (name : Text) → slice_get (map planned_node nodes) n ≡ Some (PlannedFeature d name) → HasEdge edges n d
  pub numbered : length nodes < 2 ^ 32

-- ---- steps

-- whether the number is that of a feature of d
abbrev pub is_feature_in : {N : Type 0} → ℕ → Option (Node N) → Bool
is_feature_in d None = false
is_feature_in d (Some node) = is_own_feature d node

abbrev pub is_feature_of : {N : Type 0} → List (Node N) → ℕ → ℕ → Bool
is_feature_of nodes d n = is_feature_in d (slice_get nodes n)

-- the crate with the number, if it has a value and an edge
abbrev pub joined_by : {N : Type 0} → ℕ → Option N → Option ℕ → Option (Joined N)
joined_by n (Some krate) (Some edge) = Some (record { krate = krate; node = n; edge = edge })
joined_by n _ _ = None

-- those of these numbers that have them
abbrev pub joined_all : {N : Type 0} → (ℕ → Option N) → (ℕ → Option ℕ) → List ℕ → List (Joined N)
joined_all value edge numbers = filter_map (λ n. joined_by n (value n) (edge n)) numbers

-- ---- the crates on which a crate depends directly

-- These are the crates that the mapping of p names, each with the least edge from p to it or to a feature of it. A feature has no
-- mapping, so it has none.
abbrev pub AreDependencies : {N E : Type 0} → List (Node N) → List (GraphEdge E) → ℕ → List (Joined N) → Type 0
AreDependencies nodes edges p joined = AreJoined nodes (DependsOn (map planned_node nodes) p) (IsLeastEdge nodes edges p) joined

-- ---- steps

-- the numbers among the entries of a mapping
abbrev pub numbers_in : List (Option ℕ) → List ℕ
numbers_in mapping = filter_map (λ entry. entry) mapping

-- the numbers that a node's mapping names
abbrev pub named_by : {N : Type 0} → Option (Node N) → List ℕ
named_by None = []
named_by (Some (Krate id krate features mapping)) = numbers_in mapping.items
named_by (Some (Feature krate_index name)) = []

-- the number of the crate of a node: that of a feature's crate, otherwise the node's own
abbrev pub home_in : {N : Type 0} → ℕ → Option (Node N) → ℕ
home_in n None = n
home_in n (Some (Krate id krate features mapping)) = n
home_in n (Some (Feature krate_index name)) = krate_index

abbrev pub home : {N : Type 0} → List (Node N) → ℕ → ℕ
home nodes n = home_in n (slice_get nodes n)

-- the crate into which an edge leads, with the number of the edge
abbrev pub target_in : {N E : Type 0} → List (Node N) → ℕ → Option (GraphEdge E) → Option Neighbour
target_in nodes k None = None
target_in nodes k (Some e) = Some (record { krate = home nodes e.target; edge = k })

-- the crates into which edges from `p` lead
abbrev pub targets_from : {N E : Type 0} → List (Node N) → List (GraphEdge E) → ℕ → List Neighbour
targets_from nodes edges p = filter_map (λ k. target_in nodes k (slice_get edges k)) (numbers_at edges p Outgoing)

-- ---- the crates that depend directly on a node

-- Number `p` is that of a crate, and an edge leads from it to `d` or to a feature of `d`. A feature has no features, so for one only
-- edges to the feature itself count.
pub record IsDependent {N E : Type 0} (nodes : List (Node N)) (edges : List (GraphEdge E)) (d p : ℕ) : Type 0 where
  pub krate : N
  pub crate : value_at nodes p ≡ Some krate
  pub leads : LeadsAlong (map planned_node nodes) edges p d

-- these are those crates, each with the least of such edges
abbrev pub AreDependents : {N E : Type 0} → List (Node N) → List (GraphEdge E) → ℕ → List (Joined N) → Type 0
AreDependents nodes edges d joined = AreJoined nodes (IsDependent nodes edges d) (λ p. IsLeastEdge nodes edges p d) joined

-- ---- steps

-- the source of an edge, with the number of the edge
abbrev pub source_in : {E : Type 0} → ℕ → Option (GraphEdge E) → Option Neighbour
source_in k None = None
source_in k (Some e) = Some (record { krate = e.source; edge = k })

-- the sources of the edges to `d`
abbrev pub sources_to : {E : Type 0} → List (GraphEdge E) → ℕ → List Neighbour
sources_to edges d = filter_map (λ k. source_in k (slice_get edges k)) (numbers_at edges d Incoming)

-- the sources of the edges to features of `d` that are among these
abbrev pub sources_over : {N E : Type 0} → List (Node N) → List (GraphEdge E) → ℕ → List Neighbour → List Neighbour
sources_over nodes edges d among = flat_map (λ s. sources_to edges s.krate) (filter (λ s. is_feature_of nodes d s.krate) among)

-- the sources of the edges to `d` and to features of `d`, which are themselves among the sources of the edges to `d`
abbrev pub sources_into : {N E : Type 0} → List (Node N) → List (GraphEdge E) → ℕ → List Neighbour
sources_into nodes edges d = sources_to edges d ++ sources_over nodes edges d (sources_to edges d)

-- ---- the crate that a declared dependency means

-- the number of that crate, among the entries of a mapping
abbrev pub entry_in : Option (Option ℕ) → Option ℕ
entry_in None = None
entry_in (Some entry) = entry

-- the number that the node has at that place of its mapping; none for a feature
abbrev pub number_in : {N : Type 0} → Option (Node N) → ℕ → Option ℕ
number_in None place = None
number_in (Some (Krate id krate features mapping)) place = entry_in (slice_get mapping.items place)
number_in (Some (Feature krate_index name)) place = None

abbrev pub value_of : {N : Type 0} → List (Node N) → Option ℕ → Option N
value_of nodes None = None
value_of nodes (Some n) = value_at nodes n

-- the value held for the crate whose number is at that place of node `n`'s mapping
abbrev pub resolved_at : {N : Type 0} → List (Node N) → ℕ → ℕ → Option N
resolved_at nodes n place = value_of nodes (number_in (slice_get nodes n) place)

-- ---- what the edges of a node lead to

-- the node at the end of an edge, with what the edge carries
abbrev pub target_of : {N E : Type 0} → List (Node N) → Option (GraphEdge E) → Option (Node N × E)
target_of nodes None = None
target_of nodes (Some edge) = option_map (λ node. (node, edge.weight)) (slice_get nodes edge.target)

-- the same for each of the edges with these numbers
abbrev pub targets_of : {N E : Type 0} → List (Node N) → List (GraphEdge E) → List ℕ → List (Node N × E)
targets_of nodes edges numbers = filter_map (λ number. target_of nodes (slice_get edges number)) numbers

-- the same for the outgoing edges of the node, by number
abbrev pub deps_of : {N E : Type 0} → List (Node N) → List (GraphEdge E) → ℕ → List (Node N × E)
deps_of nodes edges node = targets_of nodes edges (numbers_at edges node Outgoing)
