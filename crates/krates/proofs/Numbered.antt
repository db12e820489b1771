-- What is drawn within the limits of numbers, and what isn't.
use Rattle.std.proofs.Common.{◌≡◌, ℕ, ◌-◌, ◌<◌, ◌≤◌, ◌^◌, List, Result, Ok, Err, IfOk, IfErr, length, sym, subst, inl, inr, arith}
use Rattle.krates_cm.specs.Document.{MetadataModel}
use Rattle.krates_drawing.specs.Drawing.{planned_edges, planned_nodes}
use Rattle.krates_drawing.specs.Limits.{DrawingRefusal, HasLimits, IsBeyond, IsWithin}
use Rattle.krates_drawing.specs.Outline.{Outline}
use Rattle.krates_drawing.specs.Stored.{IsStoredAs}
use Rattle.krates_drawing.specs.declared.edge.Edge.{Edge}
use Rattle.krates_drawing.specs.declared.limits.Limits.{Limits}
use Rattle.krates_graph.specs.Graph.{StoredGraph}
use Rattle.krates_ids.specs.declared.error.Error.{Error}
use Rattle.krates_ids.specs.declared.error.Error.TheVariants as errors
use Rattle.krates_rules.specs.Facts.{Lost}
use Rattle.krates_rules.specs.NamedIds.{NamesReadIds}
use Rattle.krates_rules.specs.Setting.{SettingModel}
use Rattle.krates.specs.Build.{GraphRefusal}
use Rattle.krates_queries.specs.Drawn.{IsDrawing, IsNumbered, IsOutlineFor, planned_node}
use Rattle.krates_queries.specs.Kept.{AreNodes}
use Rattle.krates_drawing.specs.Node.{crate_ids}
use Rattle.krates.specs.KeptGraph.{IsGraphOf}
use Rattle.krates_drawing.specs.declared.division.Division.{Division}
use Rattle.krates_cm.specs.Document.{metadata_view}
use Rattle.krates_cm.specs.declared.metadata.Metadata.{Metadata}
use Rattle.krates_cm.specs.declared.package.Package.{Package}
use Rattle.krates_drawing.specs.Views.{outline_view}
use Rattle.krates_drawing.specs.declared.outline.Outline.{Outline as OutlineOf}
use Rattle.krates_drawing.specs.declared.node.Node.{Node}
use Rattle.krates.proofs.DrawnLemmas.{counted, graph_nodes}
use Rattle.krates.proofs.BuildLemmas.{Builds}
use Rattle.krates_rules.proofs.OrderedIds.{Compares}
use Rattle.krates.proofs.MadeLemmas.{count_of}
use Rattle.krates.proofs.MovedLists.{zip_long}
use Rattle.krates_queries.proofs.NodeLemmas.{crates_within}

-- the limits of numbers
abbrev pub numbers : Limits
numbers = record { nodes = 2 ^ 32 - 1; edges = 2 ^ 32 - 1 }

-- ---- beyond them

too_many : (m : MetadataModel) (s : SettingModel) (t : Outline) → IsOutlineFor m s t → IsBeyond numbers t → GraphRefusal m s errors.TooMany
too_many m s t h (inl nodes) = record { outline = t; is_outline = h; many = inl (omega (arith, nodes)) }
too_many m s t h (inr edges) = record { outline = t; is_outline = h; many = inr (omega (arith, edges)) }

pub undrawn : (m : MetadataModel) (s : SettingModel) (t : Outline) → IsOutlineFor m s t → (e : Error) → DrawingRefusal numbers t e → GraphRefusal m s e
undrawn m s t h errors.NoResolveGraph d = absurd d
undrawn m s t h (errors.Metadata inner) d = absurd d
undrawn m s t h (errors.InvalidPkgSpec text) d = absurd d
undrawn m s t h errors.NoRootKrates d = absurd d
undrawn m s t h (errors.InvalidId text) d = absurd d
undrawn m s t h (errors.Doubled kid) d = absurd d
undrawn m s t h (errors.Lost what) d = absurd d
undrawn m s t h errors.TooMany d = too_many m s t h d
undrawn m s t h errors.Memory d = tt

-- it names no id
pub undrawn_names : (m : MetadataModel) (t : Outline) (e : Error) → DrawingRefusal numbers t e → NamesReadIds m e
undrawn_names m t errors.NoResolveGraph d = absurd d
undrawn_names m t (errors.Metadata inner) d = absurd d
undrawn_names m t (errors.InvalidPkgSpec text) d = absurd d
undrawn_names m t errors.NoRootKrates d = absurd d
undrawn_names m t (errors.InvalidId text) d = absurd d
undrawn_names m t (errors.Doubled kid) d = absurd d
undrawn_names m t (errors.Lost what) d = absurd d
undrawn_names m t errors.TooMany d = tt
undrawn_names m t errors.Memory d = tt

-- ---- within them

below : (n m : ℕ) → n ≡ m → m ≤ 2 ^ 32 - 1 → n < 2 ^ 32
below n m e le = omega (arith, e, le)

pub numbered : {N E : Type 0} (made : Edge → E → Type 0) (t : Outline) (g : StoredGraph (Node N) E) → IsDrawing made t g → IsWithin numbers t → HasLimits numbers g → IsNumbered g
numbered made t g d w limits = record {
  nodes = below (length g.nodes) (length (planned_nodes t)) (count_of planned_node g.nodes (planned_nodes t) d.nodes) w.nodes;
  edges = below (length g.edges) (length (planned_edges t)) (zip_long (IsStoredAs made) (planned_edges t) g.edges d.edges) w.edges;
  node_limit = limits.nodes;
  edge_limit = limits.edges;
}

-- for a call that may be refused
pub if_within : {X : Type 0} (limits : Limits) (t : Outline) (result : Result X Error) → IsWithin limits t → IfOk result (λ _. IsWithin limits t)
if_within limits t (Ok x) w = w
if_within limits t (Err e) w = tt

-- memory may always run out
pub if_memory : {X : Type 0} (limits : Limits) (t : Outline) (result : Result X Error) → IfErr result (λ e. e ≡ errors.Memory) → IfErr result (DrawingRefusal limits t)
if_memory limits t (Ok x) h = tt
if_memory limits t (Err e) h = subst (DrawingRefusal limits t) (sym h) tt

few_crates : {N : Type 0} (nodes : List (Node N)) (n : ℕ) → n ≡ length (crate_ids nodes) → length nodes < 2 ^ 32 → n < 2 ^ 32
few_crates nodes n e lt = let le = crates_within nodes in omega (arith, e, le, lt)

-- if the nodes can be numbered, so can the crates, and the nodes are sorted
pub numbered_graph : Compares → {N E : Type 0} (made : Package → N → Type 0) (made_edge : Edge → E → Type 0) (m : Metadata) (s : SettingModel) (t : OutlineOf) (d : Division) (g : StoredGraph (Node N) E)
    → IsOutlineFor (metadata_view m) s (outline_view t) → Builds m s d → IsGraphOf made made_edge (outline_view t) d.kept.items g → IsNumbered g → AreNodes g.nodes
numbered_graph o made made_edge m s t d g h b w n =
    graph_nodes o made made_edge m s t d g h b w (few_crates g.nodes (length d.kept.items) (counted d.kept.items g.nodes w.ids) n.nodes) n.nodes
