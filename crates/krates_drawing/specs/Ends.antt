-- The ends of the drawn edges.
use Rattle.std.specs.Prelude.{ℕ, ◌<◌, All, length}
use Rattle.krates_rules.specs.Resolved.{Resolved}
use Rattle.krates_rules.specs.Setting.{SettingModel}
use Rattle.krates_drawing.specs.Drawing.{PlannedEdge, planned_edges, planned_nodes}
use Rattle.krates_drawing.specs.Outline.{Outline, IsOutline}

-- both ends are among the first n numbers
abbrev pub HasEnds : ℕ → PlannedEdge → Type 0
HasEnds n l = (l.source < n) × (l.target < n)

-- each drawn edge leads from a node to a node
abbrev pub EndsStand : Type 0
EndsStand = (r : Resolved) (s : SettingModel) (t : Outline) → IsOutline r s t → All (HasEnds (length (planned_nodes t))) (planned_edges t)
