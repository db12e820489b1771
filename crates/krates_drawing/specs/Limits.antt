-- How many nodes and edges are drawn of an outline, beside how many there may be.
use Rattle.std.specs.Prelude.{◌≡◌, ℕ, ◌⊎◌, ◌<◌, ◌≤◌, length, ⊤}
use Rattle.krates_graph.specs.Graph.{StoredGraph}
use Rattle.krates_graph.specs.declared.graph.graph_error.GraphError.{GraphError}
use Rattle.krates_graph.specs.declared.graph.graph_error.GraphError.TheVariants.{Full, Memory}
use Rattle.krates_ids.specs.declared.error.Error.{Error}
use Rattle.krates_ids.specs.declared.error.Error.TheVariants as errors
use Rattle.krates_drawing.specs.Drawing.{planned_edges, planned_nodes}
use Rattle.krates_drawing.specs.Outline.{Outline}
use Rattle.krates_drawing.specs.declared.limits.Limits.{Limits}

-- no more nodes and no more edges are drawn than there may be
pub record IsWithin (limits : Limits) (t : Outline) : Type 0 where
  pub nodes : length (planned_nodes t) ≤ limits.nodes
  pub edges : length (planned_edges t) ≤ limits.edges

-- the graph takes so many nodes and so many edges
pub record HasLimits {N E : Type 0} (limits : Limits) (g : StoredGraph N E) : Type 0 where
  pub nodes : g.node_limit ≡ limits.nodes
  pub edges : g.edge_limit ≡ limits.edges

-- more nodes are drawn than there may be, or more edges
abbrev pub IsBeyond : Limits → Outline → Type 0
IsBeyond limits t = (limits.nodes < length (planned_nodes t)) ⊎ (limits.edges < length (planned_edges t))

-- as what a graph's refusal of a further edge is told: too many where the graph is full, and want of memory as such
abbrev pub GraphErrorBecomes : {T : Type 0} → GraphError T → Error → Type 0
GraphErrorBecomes (Full weight) e = e ≡ errors.TooMany
GraphErrorBecomes (Memory weight) e = e ≡ errors.Memory

-- where the storing of so many edges stops: too many in a full graph, and before the last one in any case
abbrev pub StopsAt : {N E : Type 0} → StoredGraph N E → ℕ → Error → Type 0
StopsAt g count errors.TooMany = (length g.edges ≡ g.edge_limit) × (length g.edges < count)
StopsAt g count _ = length g.edges < count

-- why so many edges aren't stored in a graph with this limit; memory may always run out
abbrev pub StoringRefusal : ℕ → ℕ → Error → Type 0
StoringRefusal limit count errors.TooMany = limit < count
StoringRefusal limit count errors.Memory = ⊤
StoringRefusal limit count _ = ⊥

-- why the outline isn't drawn within the limits; memory may always run out
abbrev pub DrawingRefusal : Limits → Outline → Error → Type 0
DrawingRefusal limits t errors.TooMany = IsBeyond limits t
DrawingRefusal limits t errors.Memory = ⊤
DrawingRefusal limits t _ = ⊥
