-- The lines of the nodes and the edges of a stored graph. Cited by private functions alone.
use Rattle.std.specs.Prelude.{List}
use Rattle.std.specs.List.{flat_map}
use Rattle.krates_cm.specs.Document.{Text, id_view, text_view}
use Rattle.krates_cli.specs.declared.listed.Listed.{Listed}
use Rattle.krates_drawing.specs.Drawing.{PlannedEdge}
use Rattle.krates_drawing.specs.Views.{tie_view}
use Rattle.krates_drawing.specs.declared.edge.Edge.{Edge}
use Rattle.krates_graph.specs.declared.graph.edge.GraphEdge.{GraphEdge}
use Rattle.krates_drawing.specs.declared.node.Node.{Node}
use Rattle.krates_drawing.specs.declared.node.Node.TheVariants as nodes
use Rattle.krates_foreign.specs.DrawnLines.{crate_line, edge_line, feature_line}

-- the line of a node
abbrev pub stored_node_line : Node Listed → Text
stored_node_line (nodes.Krate id krate features mapping) = crate_line (id_view krate.id) mapping.items
stored_node_line (nodes.Feature krate_index name) = feature_line krate_index (text_view name)

abbrev pub stored_node_lines : List (Node Listed) → Text
stored_node_lines stored = flat_map stored_node_line stored

-- the edge that is stored, as the drawing has it
abbrev pub line_view : GraphEdge Edge → PlannedEdge
line_view edge = record { source = edge.source; target = edge.target; tie = tie_view edge.weight }

-- its line
abbrev pub stored_line : GraphEdge Edge → Text
stored_line edge = edge_line (line_view edge)

abbrev pub stored_edge_lines : List (GraphEdge Edge) → Text
stored_edge_lines edges = flat_map stored_line edges
