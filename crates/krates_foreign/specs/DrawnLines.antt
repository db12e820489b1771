-- The lines of the graph of a document: its nodes in the order of their numbers, and then its edges in the order of theirs.
use Rattle.std.specs.Prelude.{◌≡◌, ℕ, ◌++◌, List, [], ◌∷◌, Option, None, Some, codes, length}
use Rattle.std.specs.Fmt.{decimal}
use Rattle.std.specs.List.{flat_map}
use Rattle.krates_cm.specs.Document.{Text, id_view, metadata_view}
use Rattle.krates_cm.specs.declared.metadata.Metadata.{Metadata}
use Rattle.krates_cm.specs.declared.package.Package.{Package}
use Rattle.krates_cli.specs.Listing.{IsSplit}
use Rattle.krates_drawing.specs.Drawing as drawing
use Rattle.krates_drawing.specs.Drawing.{PlannedCrate, Dep, DepFeature, Feature, PlannedFeature, PlannedEdge, PlannedNode, EdgeModel, planned_nodes}
use Rattle.krates_drawing.specs.Outline.{Outline}
use Rattle.krates_queries.specs.Drawn.{IsOutlineFor}
use Rattle.krates_rules.specs.Setting.{SettingModel}
use Rattle.krates_rules.specs.declared.kind.DepKind.{DepKind}
use Rattle.krates_rules.specs.declared.kind.DepKind.TheVariants as kinds

-- a text after its length in bytes and a colon, so that it can be read whole, whatever it has
abbrev pub measured_text : Text → Text
measured_text text = decimal (length text) ++ (codes ":" ++ text)

-- ---- nodes

-- what a declared dependency leads to: the number of a crate, or no crate
abbrev pub entry_text : Option ℕ → Text
entry_text None = codes " -"
entry_text (Some krate) = codes " " ++ decimal krate

-- a kept crate, by the text of its id: an entry for each declared dependency of its package
abbrev pub crate_line : Text → List (Option ℕ) → Text
crate_line id mapping = codes "crate " ++ (measured_text id ++ (flat_map entry_text mapping ++ 10 ∷ []))

-- an enabled feature: the number of its crate, and its name
abbrev pub feature_line : ℕ → Text → Text
feature_line krate name = codes "feature " ++ (decimal krate ++ (codes " " ++ (measured_text name ++ 10 ∷ [])))

-- those of the nodes, where the crates among them are these packages
abbrev pub node_lines : List PlannedNode → List Package → Text
node_lines [] packages = []
node_lines (PlannedFeature krate name ∷ nodes) packages = feature_line krate name ++ node_lines nodes packages
node_lines (PlannedCrate id mapping ∷ nodes) [] = []
node_lines (PlannedCrate id mapping ∷ nodes) (pkg ∷ packages) = crate_line (id_view pkg.id) mapping ++ node_lines nodes packages

-- ---- edges

abbrev pub kind_text : DepKind → Text
kind_text kinds.Normal = codes " normal"
kind_text kinds.Build = codes " build"
kind_text kinds.Dev = codes " dev"

-- the target that an edge is for, where it is for one
abbrev pub cfg_text : Option Text → Text
cfg_text None = []
cfg_text (Some cfg) = codes " " ++ measured_text cfg

-- what an edge says
abbrev pub tie_text : EdgeModel → Text
tie_text (Dep kind cfg) = codes " dep" ++ (kind_text kind ++ cfg_text cfg)
tie_text (DepFeature kind cfg) = codes " depfeature" ++ (kind_text kind ++ cfg_text cfg)
tie_text Feature = codes " feature"

-- the numbers of the nodes that an edge leaves and enters, and what it says
abbrev pub edge_line : PlannedEdge → Text
edge_line l = codes "edge " ++ (decimal l.source ++ (codes " " ++ (decimal l.target ++ (tie_text l.tie ++ 10 ∷ []))))

abbrev pub edge_lines : List PlannedEdge → Text
edge_lines lines = flat_map edge_line lines

-- ---- of a document

-- These are the lines of a document's graph: its kept crates are the packages that have to be kept, and it is the drawing of exactly
-- what is derivable.
pub record DrawsPackages (s : SettingModel) (m : Metadata) (lines : Text) : Type 0 where
  pub kept : List Package
  pub others : List Package
  pub split : IsSplit s m kept others
  pub outline : Outline
  pub is_outline : IsOutlineFor (metadata_view m) s outline
  pub written : lines ≡ node_lines (planned_nodes outline) kept ++ edge_lines (drawing.planned_edges outline)
