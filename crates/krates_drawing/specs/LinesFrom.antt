-- Edges from a node: what the drawing of them has to know.
use Rattle.std.specs.Prelude.{◌≡◌, ◌<◌, ℕ, true, List, [], filter, length, map}
use Rattle.krates_selection.specs.Selection.{id_at}
use Rattle.krates_rules.specs.Facts.{Id}
use Rattle.krates_drawing.specs.Drawing.{Endpoint, AtCrate, AtFeature, Feature, PlannedEdge, is_between, leads, line, number}
use Rattle.krates_drawing.specs.Outline as model
use Rattle.krates_drawing.specs.Outline.{Meaning, OwnFeature, Crates, FeatureOf}
use Rattle.krates_drawing.specs.Views.{kids_in, outline_view}
use Rattle.krates_drawing.specs.declared.outline.Outline.{Outline}

-- the features of q that p toggles
abbrev pub toggle_lines : model.Outline → Id → Id → List PlannedEdge
toggle_lines t p q = map (λ g. line t (AtCrate p) (AtFeature q g.name) Feature) (filter (is_between p q) t.toggled)

-- a feature leads to the end
abbrev pub line_from : model.Outline → ℕ → Endpoint → PlannedEdge
line_from t n e = record { source = n; target = number t e; tie = Feature }

-- the crates of which a reference names something, but for its own
abbrev pub referents : Meaning → List Id
referents (OwnFeature f) = []
referents (Crates ids) = ids
referents (FeatureOf ids f) = ids

-- what a reference names of the crate: a feature, or the crate itself
abbrev pub end_of : Meaning → Id → Endpoint
end_of (FeatureOf ids f) q = AtFeature q f
end_of _ q = AtCrate q

-- the number is that of the crate with this id, to which a kept edge leads from the crate of the other number
pub record IsNumberOfChild (t : Outline) (parent : ℕ) (i : Id) (n : ℕ) : Type 0 where
  pub within : n < length t.krates.items
  pub id : id_at (kids_in t) n ≡ i
  pub is_led_to : leads (outline_view t) (id_at (kids_in t) parent) i ≡ true
