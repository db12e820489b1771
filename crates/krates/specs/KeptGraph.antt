-- The stored graph of an outline, with the packages of its crates.
use Rattle.std.specs.Prelude.{◌≡◌, ◌↔◌, List, Contains, map}
use Rattle.std.specs.List.{AllZip}
use Rattle.krates_cm.specs.Document.{Text}
use Rattle.krates_cm.specs.declared.package.Package.{Package}
use Rattle.krates_drawing.specs.Outline.{FeatureRow, Outline}
use Rattle.krates_drawing.specs.declared.edge.Edge.{Edge}
use Rattle.krates_graph.specs.Graph.{StoredGraph}
use Rattle.krates_rules.specs.Facts.{Id, Fact, Feature}
use Rattle.krates_drawing.specs.Division.{IsAmong, krate_ids, krate_packages}
use Rattle.krates_queries.specs.Drawn.{IsDrawing}
use Rattle.krates_queries.specs.Kept.{IsEnabledIn}
use Rattle.krates_drawing.specs.Node.{crate_ids, crate_values, crate_features, CratesFirst}
use Rattle.krates_drawing.specs.declared.division.Krate.{Krate}
use Rattle.krates_drawing.specs.declared.node.Node.{Node}

abbrev pub named_fact : FeatureRow → Fact
named_fact n = Feature n.krate n.name

-- The graph is the drawing of the outline; its crates are these, with what is made from their packages, and their enabled features
-- are those of the outline.
pub record IsGraphOf {N E : Type 0} (made : Package → N → Type 0) (made_edge : Edge → E → Type 0) (t : Outline) (krates : List Krate) (g : StoredGraph (Node N) E) : Type 0 where
  pub drawing : IsDrawing made_edge t g
  pub ids : crate_ids g.nodes ≡ krate_ids krates
  pub values : AllZip made (krate_packages krates) (crate_values g.nodes)
  pub enabled : (i : Id) (f : Text) → IsEnabledIn (crate_ids g.nodes) (crate_features g.nodes) i f ↔ (IsAmong (krate_ids krates) i × Contains (map named_fact t.features) (Feature i f))
  pub first : CratesFirst g.nodes
