-- Which crates kept members reach.
use Rattle.std.specs.Prelude.{◌≡◌, ℕ, List, Contains, ⊤}
use Rattle.krates_rules.specs.Facts.{Id}
use Rattle.krates_rules.specs.Resolved.{Resolved, IsMember}
use Rattle.krates_rules.specs.declared.kind.DepKind.{DepKind}
use Rattle.krates_drawing.specs.Drawing.{EdgeModel, Dep, Feature, DepFeature, PlannedEdge, crate_number, planned_edges}
use Rattle.krates_drawing.specs.Outline.{CrateRow, Outline}

-- the edge has no kind, or another
abbrev pub Passes : DepKind → EdgeModel → Type 0
Passes k (Dep kind cfg) = kind ≡ k → ⊥
Passes k (DepFeature kind cfg) = kind ≡ k → ⊥
Passes k Feature = ⊤

-- an edge that passes leads from one number to the other
pub record LeadsWithout (k : DepKind) (edges : List PlannedEdge) (n m : ℕ) : Type 0 where
  pub line : PlannedEdge
  pub among : Contains edges line
  pub passes : Passes k line.tie
  pub from : line.source ≡ n
  pub to : line.target ≡ m

-- the number at the end of a path that begins at a start, where each step leads from one number to the next
pub data Reaches (Leads : ℕ → ℕ → Type 0) (Start : ℕ → Type 0) : ℕ → Type 0 where
  begins : {n : ℕ} → Start n → Reaches Leads Start n
  goes_on : {n m : ℕ} → Reaches Leads Start n → Leads n m → Reaches Leads Start m

-- the crate is kept
pub record IsDrawn (t : Outline) (p : Id) : Type 0 where
  pub krate : CrateRow
  pub among : Contains t.krates krate
  pub id : krate.id ≡ p

-- the number of a kept member
pub record IsMemberNumber (r : Resolved) (t : Outline) (n : ℕ) : Type 0 where
  pub member : Id
  pub kept : IsDrawn t member
  pub is_member : IsMember r member
  pub number : n ≡ crate_number t member

-- the kept crate is at the end of a path from a kept member over edges without this kind
pub record IsFiltered (r : Resolved) (t : Outline) (k : DepKind) (p : Id) : Type 0 where
  pub kept : IsDrawn t p
  pub reached : Reaches (LeadsWithout k (planned_edges t)) (IsMemberNumber r t) (crate_number t p)
