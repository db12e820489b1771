-- What is gathered about kept crates, edges and features.
use Rattle.std.specs.Prelude.{◌≡◌, Bool, List, Some, filter, length, map, slice_get}
use Rattle.std.specs.List.{AllZip}
use Rattle.krates_cm.specs.Document.{DependencyModel, Text, node_view, package_view, text_view}
use Rattle.krates_ids.specs.Identity.{Identity}
use Rattle.krates_rules.specs.Resolved.{HasNode, HasPackage, NoNode, NoPackage, Resolved, id_of}
use Rattle.krates_selection.specs.declared.selection.EnabledFeature.{EnabledFeature}
use Rattle.krates_selection.specs.declared.selection.KeptEdge.{KeptEdge}
use Rattle.krates_questions.specs.FeatureTable.{values_of}
use Rattle.krates_drawing.specs.Outline.{IsMeaning, asked_by}
use Rattle.krates_text.specs.Texts.{has_text}
use Rattle.krates_drawing.specs.Views.{meaning_view}
use Rattle.krates_drawing.specs.declared.gather.CrateRecord.{CrateRecord}
use Rattle.krates_drawing.specs.declared.outline.CrateRow.{CrateRow}
use Rattle.krates_drawing.specs.declared.outline.EdgeRow.{EdgeRow}
use Rattle.krates_drawing.specs.declared.outline.FeatureRow.{FeatureRow}

-- the document has a package and a node for the crate
abbrev pub Stands : Resolved → Identity → Type 0
Stands r i = (NoPackage r (id_of i) → ⊥) × (NoNode r (id_of i) → ⊥)

-- it is this crate, with its package and its node
pub record IsRecordOf (r : Resolved) (i : Identity) (t : CrateRecord) : Type 0 where
  pub krate : t.krate ≡ i
  pub pkg : HasPackage r (id_of t.krate) (package_view t.pkg.now)
  pub node : HasNode r (id_of t.krate) (node_view t.node.now)

-- the crate, with how many dependencies its package declares
abbrev pub row_in : CrateRecord → CrateRow
row_in t = record { id = t.krate; declared = length (package_view t.pkg.now).dependencies }

-- the edge is between crates that are recorded, and declared by the parent's package
pub record IsBetween (r : Resolved) (records : List CrateRecord) (e : KeptEdge) : Type 0 where
  pub parent : CrateRecord
  pub at_parent : slice_get records e.parent ≡ Some parent
  pub dependency : DependencyModel
  pub declared : slice_get (package_view parent.pkg.now).dependencies e.declared ≡ Some dependency
  pub child : CrateRecord
  pub at_child : slice_get records e.child ≡ Some child
  pub node : HasNode r (id_of child.krate) (node_view child.node.now)

-- of the features that the declared dependency asks for those that the child's node lists
abbrev pub given_between : {r : Resolved} {records : List CrateRecord} {e : KeptEdge} → IsBetween r records e → List Text
given_between b = filter (has_text (node_view b.child.node.now).features) (asked_by b.dependency)

-- the row is of this edge, with the features that it gives
pub record IsEdgeWith (r : Resolved) (records : List CrateRecord) (e : KeptEdge) (row : EdgeRow) : Type 0 where
  pub edge : row.edge ≡ e
  pub given : (b : IsBetween r records e) → map text_view row.given.items ≡ given_between b

-- the row is of this feature, with what its references mean
pub record IsFeatureWith (r : Resolved) (all : Bool) (records : List CrateRecord) (f : EnabledFeature) (row : FeatureRow) : Type 0 where
  pub feature : row.feature ≡ f
  pub meanings : (t : CrateRecord) → slice_get records f.krate ≡ Some t
      → AllZip (IsMeaning r all (id_of t.krate)) (values_of (package_view t.pkg.now).features (text_view f.name)) (map meaning_view row.meanings.items)
