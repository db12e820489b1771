-- What every drawn graph has: an edge into each crate that a mapping names, and one from each feature to its crate.
use Rattle.std.specs.Prelude.{◌≡◌, ℕ, List, Option, Some, Contains, slice_get}
use Rattle.krates_cm.specs.Document.{Text}
use Rattle.krates_rules.specs.Facts.{Id}
use Rattle.krates_rules.specs.Resolved.{Resolved}
use Rattle.krates_rules.specs.Setting.{SettingModel}
use Rattle.krates_drawing.specs.Agreement.{DependsOn, LeadsTo}
use Rattle.krates_drawing.specs.Drawing.{PlannedEdge, PlannedNode, PlannedCrate, PlannedFeature, crate_number, planned_edges, planned_nodes}
use Rattle.krates_drawing.specs.Paths.{IsDrawn}
use Rattle.krates_drawing.specs.Outline.{Outline, IsOutline}

-- number d is that of a crate, and an edge leads from p to it or to a feature of it
pub record IsLedInto (nodes : List PlannedNode) (edges : List PlannedEdge) (p d : ℕ) : Type 0 where
  pub id : Id
  pub mapping : List (Option ℕ)
  pub at : slice_get nodes d ≡ Some (PlannedCrate id mapping)
  pub leads : LeadsTo nodes edges p d

-- an edge leads from number n to number d
pub record LeadsHome (edges : List PlannedEdge) (n d : ℕ) : Type 0 where
  pub line : PlannedEdge
  pub among : Contains edges line
  pub from : line.source ≡ n
  pub to : line.target ≡ d

-- the kept crate has this number
pub record IsNumbered (t : Outline) (id : Id) (n : ℕ) : Type 0 where
  pub kept : IsDrawn t id
  pub number : crate_number t id ≡ n

pub record IsConnected (t : Outline) : Type 0 where
  -- what a mapping names is a crate, into which an edge leads
  pub mappings : (p d : ℕ) → DependsOn (planned_nodes t) p d → IsLedInto (planned_nodes t) (planned_edges t) p d
  -- each feature leads to its crate
  pub features : (n d : ℕ) (name : Text) → slice_get (planned_nodes t) n ≡ Some (PlannedFeature d name) → LeadsHome (planned_edges t) n d
  -- the node of a crate has the number of the crate
  pub crates : (p : ℕ) (id : Id) (mapping : List (Option ℕ)) → slice_get (planned_nodes t) p ≡ Some (PlannedCrate id mapping) → IsNumbered t id p

-- it holds of every outline of a document
abbrev pub AreConnected : Type 0
AreConnected = (r : Resolved) (s : SettingModel) (t : Outline) → IsOutline r s t → IsConnected t
