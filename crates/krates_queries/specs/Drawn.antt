-- The stored graph, compared with what is drawn of a document.
use Rattle.std.specs.Prelude.{◌≡◌, ◌<◌, ◌-◌, ◌^◌, length, map}
use Rattle.std.specs.List.{AllZip}
use Rattle.krates_cm.specs.Document.{MetadataModel, text_view}
use Rattle.krates_drawing.specs.Drawing.{PlannedNode, PlannedCrate, PlannedFeature, planned_edges, planned_nodes}
use Rattle.krates_drawing.specs.Outline.{Outline, IsOutline}
use Rattle.krates_drawing.specs.Stored.{IsStoredAs}
use Rattle.krates_drawing.specs.declared.edge.Edge.{Edge}
use Rattle.krates_graph.specs.Graph.{StoredGraph}
use Rattle.krates_rules.specs.Resolved.{HasGraphWith, id_of, resolved}
use Rattle.krates_rules.specs.Setting.{SettingModel}
use Rattle.krates_drawing.specs.declared.node.Node.{Node}
use Rattle.krates_drawing.specs.declared.node.Node.TheVariants.{Krate, Feature}

-- the drawn node that a node represents: a crate with its mapping, or a feature of the crate with a number
abbrev pub planned_node : {N : Type 0} → Node N → PlannedNode
planned_node (Krate id krate features mapping) = PlannedCrate (id_of id) mapping.items
planned_node (Feature krate_index name) = PlannedFeature krate_index (text_view name)

-- the nodes and the edges are the drawn ones, number by number, and the edges carry what is made from them
pub record IsDrawing {N E : Type 0} (made : Edge → E → Type 0) (t : Outline) (g : StoredGraph (Node N) E) : Type 0 where
  pub nodes : map planned_node g.nodes ≡ planned_nodes t
  pub edges : AllZip (IsStoredAs made) (planned_edges t) g.edges

-- the outline is that of exactly what is derivable of the document
abbrev pub IsOutlineFor : MetadataModel → SettingModel → Outline → Type 0
IsOutlineFor m s t = HasGraphWith m (λ g. IsOutline (resolved m g) s t)

-- The graph is the drawing of exactly what is derivable.
pub record IsDrawn {N E : Type 0} (made : Edge → E → Type 0) (m : MetadataModel) (s : SettingModel) (g : StoredGraph (Node N) E) : Type 0 where
  pub outline : Outline
  pub is_outline : IsOutlineFor m s outline
  pub drawing : IsDrawing made outline g

-- there are no more nodes and no more edges than can be numbered, and the graph's limits allow no more
pub record IsNumbered {N E : Type 0} (g : StoredGraph (Node N) E) : Type 0 where
  pub nodes : length g.nodes < 2 ^ 32
  pub edges : length g.edges < 2 ^ 32
  pub node_limit : g.node_limit ≡ 2 ^ 32 - 1
  pub edge_limit : g.edge_limit ≡ 2 ^ 32 - 1

-- the same for what is drawn
pub record CanBeNumbered (t : Outline) : Type 0 where
  pub nodes : length (planned_nodes t) < 2 ^ 32
  pub edges : length (planned_edges t) < 2 ^ 32
