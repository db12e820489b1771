-- What a crate's mapping names, and where its edges lead.
use Rattle.std.specs.Prelude.{◌≡◌, ◌⊎◌, ◌↔◌, ℕ, List, Option, Some, Contains, slice_get}
use Rattle.krates_cm.specs.Document.{Text, DependencyModel}
use Rattle.krates_rules.specs.Admission.{NoneDoubled}
use Rattle.krates_rules.specs.Derivation.{Derivable}
use Rattle.krates_rules.specs.Facts.{Id, Edge, Kept}
use Rattle.krates_rules.specs.Questions.{IsDeclaredAt, questions}
use Rattle.krates_rules.specs.Resolved.{Resolved}
use Rattle.krates_rules.specs.Setting.{SettingModel}
use Rattle.krates_drawing.specs.Drawing.{PlannedEdge, PlannedNode, PlannedCrate, PlannedFeature, crate_number, planned_edges, planned_nodes}
use Rattle.krates_drawing.specs.Paths.{IsDrawn}
use Rattle.krates_drawing.specs.Outline.{Outline, IsOutline}

-- a kept edge of the crate, with the place of its declared dependency
pub record KeptAt (r : Resolved) (s : SettingModel) (p : Id) (place : ℕ) (e : Edge) : Type 0 where
  pub parent : e.parent ≡ p
  pub kept : Derivable (questions r s) (Kept e)
  pub dependency : DependencyModel
  pub declared : IsDeclaredAt r s e place dependency

-- no two crates have kept edges of p with one declared dependency
abbrev pub OneEach : Resolved → SettingModel → Id → Type 0
OneEach r s p = (place : ℕ) (e f : Edge) → KeptAt r s p place e → KeptAt r s p place f → e.child ≡ f.child

-- the crate with number p has number d among the entries of its mapping
pub record DependsOn (nodes : List PlannedNode) (p d : ℕ) : Type 0 where
  pub id : Id
  pub mapping : List (Option ℕ)
  pub at : slice_get nodes p ≡ Some (PlannedCrate id mapping)
  pub among : Contains mapping (Some d)

-- the number is d's, or that of a feature of d
abbrev pub IsOf : List PlannedNode → ℕ → ℕ → Type 0
IsOf nodes d n = (n ≡ d) ⊎ ((name : Text) × (slice_get nodes n ≡ Some (PlannedFeature d name)))

-- an edge leads from number p to number d or to a feature of it
pub record LeadsTo (nodes : List PlannedNode) (edges : List PlannedEdge) (p d : ℕ) : Type 0 where
  pub line : PlannedEdge
  pub among : Contains edges line
  pub from : line.source ≡ p
  pub to : IsOf nodes d line.target

-- the kept crate depends on the kept crates to which its edges lead, and on no other
abbrev pub Agrees : Outline → Id → Id → Type 0
Agrees t p d = DependsOn (planned_nodes t) (crate_number t p) (crate_number t d) ↔ LeadsTo (planned_nodes t) (planned_edges t) (crate_number t p) (crate_number t d)

abbrev pub DependenciesAgree : Type 0
DependenciesAgree = (r : Resolved) (s : SettingModel) → NoneDoubled r.metadata r.graph → (t : Outline) → IsOutline r s t
    → (p d : Id) → IsDrawn t p → IsDrawn t d → OneEach r s p → Agrees t p d
