-- The lines of a stored graph are those of the drawing that it stores.
use Rattle.std.proofs.Common.{◌≡◌, ◌++◌, ◌∙◌, List, [], ◌∷◌, ap, map, refl}
use Rattle.std.specs.List.{AllZip}
use Rattle.krates_cm.specs.Document.{Text, id_view, metadata_view, text_view}
use Rattle.krates_cm.specs.declared.metadata.Metadata.{Metadata}
use Rattle.krates_cm.specs.declared.package.Package.{Package}
use Rattle.krates_cm.specs.declared.package_id.PackageId.{PackageId}
use Rattle.krates_cli.proofs.ListingLemmas.{split_by}
use Rattle.krates_cli.specs.Lines.{IsListedOf}
use Rattle.krates_cli.specs.declared.listed.Listed.{Listed}
use Rattle.krates_drawing.specs.Drawing as drawing
use Rattle.krates_drawing.specs.Drawing.{PlannedEdge, PlannedNode, planned_nodes}
use Rattle.krates_drawing.specs.Stored.{IsStoredAs}
use Rattle.krates_drawing.specs.Views.{tie_view}
use Rattle.krates_drawing.specs.declared.edge.Edge.{Edge}
use Rattle.krates_graph.specs.declared.graph.edge.GraphEdge.{GraphEdge}
use Rattle.krates_queries.specs.Drawn.{planned_node}
use Rattle.krates_queries.specs.Kept.{KeptCrates}
use Rattle.krates_drawing.specs.Node.{crate_values}
use Rattle.krates_drawing.specs.declared.node.Node.{Node}
use Rattle.krates_drawing.specs.declared.node.Node.TheVariants as nodes
use Rattle.krates_rules.specs.Setting.{SettingModel}
use Rattle.krates.specs.Build.{IsBuilt, IsResolvable}
use Rattle.krates_foreign.specs.DrawnLines.{DrawsPackages, crate_line, edge_line, edge_lines, feature_line, node_lines}
use Rattle.krates_foreign.specs.StoredLines.{line_view, stored_edge_lines, stored_node_lines}

-- what is listed of packages has the lines of these
nodes_written : (packages : List Package) (stored : List (Node Listed)) → AllZip IsListedOf packages (crate_values stored) → stored_node_lines stored ≡ node_lines (map planned_node stored) packages
nodes_written packages [] zip = refl
nodes_written packages (nodes.Feature krate name ∷ stored) zip = ap (λ lines. feature_line krate (text_view name) ++ lines) (nodes_written packages stored zip)
nodes_written [] (nodes.Krate id krate features mapping ∷ stored) zip = absurd zip
nodes_written (pkg ∷ packages) (nodes.Krate id krate features mapping ∷ stored) zip =
    ap (λ (of : PackageId). crate_line (id_view of) mapping.items ++ stored_node_lines stored) zip.0
    ∙ ap (λ lines. crate_line (id_view pkg.id) mapping.items ++ lines) (nodes_written packages stored zip.1)

-- an edge is stored as a copy of what it says
abbrev pub IsCopied : Edge → Edge → Type 0
IsCopied edge made = made ≡ edge

-- so what is stored is the drawn edge
same_line : (l : PlannedEdge) (stored : GraphEdge Edge) → IsStoredAs IsCopied l stored → line_view stored ≡ l
same_line l stored h = let tie = ap tie_view h.made_from ∙ h.says in λ i. record { source = h.source i; target = h.target i; tie = tie i }

edges_written : (ls : List PlannedEdge) (stored : List (GraphEdge Edge)) → AllZip (IsStoredAs IsCopied) ls stored → stored_edge_lines stored ≡ edge_lines ls
edges_written [] [] zip = refl
edges_written [] (edge ∷ stored) zip = absurd zip
edges_written (l ∷ ls) [] zip = absurd zip
edges_written (l ∷ ls) (edge ∷ stored) zip =
    ap (λ of. edge_line of ++ stored_edge_lines stored) (same_line l edge zip.0) ∙ ap (λ lines. edge_line l ++ lines) (edges_written ls stored zip.1)

-- the lines of what is built from a document are those of its graph
pub draws : {F : Type 0} (filters : F → Package → F → Type 0) (s : SettingModel) (m : Metadata) (kept : KeptCrates Listed Edge) (before after : F) (lines : Text) → IsResolvable (metadata_view m)
    → IsBuilt filters IsListedOf IsCopied m s before after kept → lines ≡ stored_node_lines kept.graph.nodes ++ stored_edge_lines kept.graph.edges → DrawsPackages s m lines
draws filters s m kept before after lines resolvable built written =
    let outline = built.drawn.outline in
    let packages = built.values.packages in
    let nodes = nodes_written packages kept.graph.nodes built.values.made_of ∙ ap (λ drawn. node_lines drawn packages) built.drawn.drawing.nodes in
    let edges = edges_written (drawing.planned_edges outline) kept.graph.edges built.drawn.drawing.edges in record {
      kept = packages;
      others = built.reported.others;
      split = split_by filters IsListedOf IsCopied s m kept before after resolvable built;
      outline = outline;
      is_outline = built.drawn.is_outline;
      written = written ∙ ap (λ front. front ++ stored_edge_lines kept.graph.edges) nodes ∙ ap (λ rest. node_lines (planned_nodes outline) packages ++ rest) edges;
    }
