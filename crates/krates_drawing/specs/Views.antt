-- The outline and the planned edges of the program, as clauses see them.
use Rattle.std.specs.Prelude.{◌≡◌, ℕ, ◌+◌, ◌<◌, ◌^◌, List, [], ◌∷◌, ◌++◌, Option, Some, None, get_or, map, length}
use Rattle.std.specs.Option.{option_map}
use Rattle.std.specs.Global.{Vec}
use Rattle.krates_cm.specs.Document.{text_view}
use Rattle.krates_rules.specs.Resolved.{id_of}
use Rattle.krates_ids.specs.Identity.{Identity}
use Rattle.krates_selection.specs.Selection.{id_at, no_id, edge_view}
use Rattle.krates_selection.specs.declared.selection.ToggledFeature.{ToggledFeature}
use Rattle.krates_drawing.specs.Drawing as drawing
use Rattle.krates_drawing.specs.Drawing.{EdgeModel, Dep, Feature, DepFeature, PlannedFeature, mapping, planned_feature}
use Rattle.krates_drawing.specs.Outline as model
use Rattle.krates_drawing.specs.Outline.{OwnFeature, Crates, FeatureOf}
use Rattle.krates_drawing.specs.declared.edge.PlannedEdge.{PlannedEdge}
use Rattle.krates_drawing.specs.declared.edge.Edge.{Edge}
use Rattle.krates_drawing.specs.declared.edge.Edge.TheVariants as edge
use Rattle.krates_drawing.specs.declared.nodes.PlannedFeature as nodes
use Rattle.krates_drawing.specs.declared.nodes.PlannedNodes.{PlannedNodes}
use Rattle.krates_drawing.specs.declared.outline.CrateRow.{CrateRow}
use Rattle.krates_drawing.specs.declared.outline.EdgeRow.{EdgeRow}
use Rattle.krates_drawing.specs.declared.outline.Meaning.{Meaning}
use Rattle.krates_drawing.specs.declared.outline.Meaning.TheVariants as meaning
use Rattle.krates_drawing.specs.declared.outline.FeatureRow.{FeatureRow}
use Rattle.krates_drawing.specs.declared.outline.Outline.{Outline}

abbrev pub crate_row_view : CrateRow → model.CrateRow
crate_row_view k = record { id = id_of k.id; declared = k.declared }

-- the ids of the kept crates
abbrev pub kids_of : List CrateRow → List Identity
kids_of krates = map (λ k. k.id) krates

abbrev pub kids_in : Outline → List Identity
kids_in t = kids_of t.krates.items

-- the crate under a number that none has
abbrev pub no_krate : model.CrateRow
no_krate = record { id = no_id; declared = 0 }

-- the crate of a number
abbrev pub krate_at : Outline → ℕ → model.CrateRow
krate_at t n = get_or (map crate_row_view t.krates.items) n no_krate

-- an edge between these crates
abbrev pub edge_row_view : List Identity → EdgeRow → model.EdgeRow
edge_row_view kids l = record { edge = edge_view kids l.edge; place = l.edge.declared; first = l.edge.place; given = map text_view l.given.items }

abbrev pub meaning_view : Meaning → model.Meaning
meaning_view (meaning.OwnFeature name) = OwnFeature (text_view name)
meaning_view (meaning.Crates krates) = Crates (map id_of krates.items)
meaning_view (meaning.FeatureOf krates name) = FeatureOf (map id_of krates.items) (text_view name)

-- a feature of one of these crates
abbrev pub feature_row_view : List Identity → FeatureRow → model.FeatureRow
feature_row_view kids n = record { krate = id_at kids n.feature.krate; name = text_view n.feature.name; meanings = map meaning_view n.meanings.items }

-- a toggled feature of these crates
abbrev pub toggle_of : List Identity → ToggledFeature → model.Toggle
toggle_of kids t = record { by = id_at kids t.by; krate = id_at kids t.krate; name = text_view t.name }

abbrev pub outline_view : Outline → model.Outline
outline_view t = record {
  krates = map crate_row_view t.krates.items;
  links = map (edge_row_view (kids_in t)) t.links.items;
  features = map (feature_row_view (kids_in t)) t.features.items;
  toggled = map (toggle_of (kids_in t)) t.toggled.items;
}

-- what an edge says, as the drawing has it
abbrev pub tie_view : Edge → EdgeModel
tie_view (edge.Dep kind cfg) = Dep kind (option_map text_view cfg)
tie_view edge.Feature = Feature
tie_view (edge.DepFeature kind cfg) = DepFeature kind (option_map text_view cfg)

-- a planned edge, as the drawing has it
abbrev pub planned_edge_view : PlannedEdge → drawing.PlannedEdge
planned_edge_view a = record { source = a.source; target = a.target; tie = tie_view a.edge }

-- these lines were appended
abbrev pub Draws : Vec PlannedEdge → Vec PlannedEdge → List drawing.PlannedEdge → Type 0
Draws old new ls = map planned_edge_view new.items ≡ map planned_edge_view old.items ++ ls

-- there are few enough nodes
abbrev pub IsFew : Outline → Type 0
IsFew t = length t.krates.items + length t.features.items < 2 ^ 32

-- the planned node of a feature, as the drawing has it
abbrev pub planned_feature_view : nodes.PlannedFeature → drawing.PlannedNode
planned_feature_view f = PlannedFeature f.krate_index (text_view f.name)

-- these are the nodes of the outline's graph: the mapping of each crate, and each feature
pub record ArePlannedNodes (t : model.Outline) (planned : PlannedNodes) : Type 0 where
  pub mappings : map (λ m. m.items) planned.mappings.items ≡ map (mapping t) t.krates
  pub features : map planned_feature_view planned.features.items ≡ map (planned_feature t) t.features

-- what there is, as a list
abbrev pub listed : {A : Type 0} → Option A → List A
listed None = []
listed (Some x) = x ∷ []
