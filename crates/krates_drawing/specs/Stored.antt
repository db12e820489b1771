-- A stored graph beside what is drawn.
use Rattle.std.specs.Prelude.{◌≡◌, ℕ, List, Contains}
use Rattle.krates_graph.specs.declared.graph.edge.GraphEdge.{GraphEdge}
use Rattle.krates_drawing.specs.Agreement.{IsOf}
use Rattle.krates_drawing.specs.Drawing.{PlannedEdge, PlannedNode}
use Rattle.krates_drawing.specs.Views.{tie_view}
use Rattle.krates_drawing.specs.declared.edge.Edge.{Edge}

-- the stored edge is the drawn one, and carries what is made of it
pub record IsStoredAs {E : Type 0} (made : Edge → E → Type 0) (l : PlannedEdge) (g : GraphEdge E) : Type 0 where
  pub source : g.source ≡ l.source
  pub target : g.target ≡ l.target
  pub edge : Edge
  pub says : tie_view edge ≡ l.tie
  pub made_from : made edge g.weight

-- a stored edge leads from number p to number d or to a feature of it
pub record LeadsAlong {E : Type 0} (nodes : List PlannedNode) (edges : List (GraphEdge E)) (p d : ℕ) : Type 0 where
  pub edge : GraphEdge E
  pub among : Contains edges edge
  pub from : edge.source ≡ p
  pub to : IsOf nodes d edge.target
