-- What is drawn of a document under a setting that leaves out more.
use Rattle.std.specs.Prelude.{◌≤◌, List, [], ◌∷◌, length}
use Rattle.krates_rules.specs.Admission.{NoneDoubled}
use Rattle.krates_rules.specs.Narrowing.{IsNarrower}
use Rattle.krates_rules.specs.Resolved.{Resolved}
use Rattle.krates_rules.specs.Setting.{SettingModel}
use Rattle.krates_drawing.specs.Drawing.{planned_edges, planned_nodes}
use Rattle.krates_drawing.specs.Outline.{Outline, IsOutline}

-- the first list is the second with some elements left out
pub data IsPart {X : Type 0} : List X → List X → Type 0 where
  nothing : IsPart [] []
  keeps : {x : X} {xs ys : List X} → IsPart xs ys → IsPart (x ∷ xs) (x ∷ ys)
  leaves_out : {y : X} {xs ys : List X} → IsPart xs ys → IsPart xs (y ∷ ys)

-- The kept crates, the kept edges, the enabled and the toggled features of the first outline are a part of those of the second, and
-- of the first no more nodes and no more edges are drawn.
pub record DrawsNoMore (t v : Outline) : Type 0 where
  pub krates : IsPart t.krates v.krates
  pub links : IsPart t.links v.links
  pub features : IsPart t.features v.features
  pub toggled : IsPart t.toggled v.toggled
  pub nodes : length (planned_nodes t) ≤ length (planned_nodes v)
  pub edges : length (planned_edges t) ≤ length (planned_edges v)

-- under a narrower setting no more is drawn
abbrev pub NarrowerDrawsNoMore : Type 0
NarrowerDrawsNoMore = (r : Resolved) → NoneDoubled r.metadata r.graph → (wide narrow : SettingModel) → IsNarrower wide narrow
    → (t v : Outline) → IsOutline r narrow t → IsOutline r wide v → DrawsNoMore t v
