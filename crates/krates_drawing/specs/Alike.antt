-- The graphs that are drawn of documents that differ only in order.
use Rattle.std.specs.Prelude.{◌≡◌, Some}
use Rattle.krates_cm.specs.Document.{ResolveModel, MetadataModel}
use Rattle.krates_rules.specs.Admission.{NoneDoubled}
use Rattle.krates_rules.specs.Reordering.{Reorders}
use Rattle.krates_rules.specs.Resolved.{resolved}
use Rattle.krates_rules.specs.Setting.{SettingModel}
use Rattle.krates_drawing.specs.Drawing.{planned_edges, planned_nodes}
use Rattle.krates_drawing.specs.Outline.{Outline, IsOutline}

-- the graphs have the same nodes with the same numbers and mappings, and the same edges
pub record DrawAlike (t v : Outline) : Type 0 where
  pub outline : t ≡ v
  pub nodes : planned_nodes t ≡ planned_nodes v
  pub edges : planned_edges t ≡ planned_edges v

-- documents that differ only in order are drawn alike
abbrev pub IsDrawnAlike : Type 0
IsDrawnAlike = (m n : MetadataModel) → Reorders m n → (g h : ResolveModel) → m.resolve ≡ Some g → n.resolve ≡ Some h → NoneDoubled n h → (s : SettingModel)
    → (t v : Outline) → IsOutline (resolved m g) s t → IsOutline (resolved n h) s v → DrawAlike t v

-- An outline of one of two documents that differ only in order is an outline of the other.
abbrev pub IsOutlineThere : Type 0
IsOutlineThere = (m n : MetadataModel) → Reorders m n → (g h : ResolveModel) → m.resolve ≡ Some g → n.resolve ≡ Some h → NoneDoubled n h → (s : SettingModel)
    → (t : Outline) → IsOutline (resolved m g) s t → IsOutline (resolved n h) s t
