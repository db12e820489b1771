-- The document, looked up by package id: by membership and without order (Cargo Book, "cargo metadata", "JSON
-- format").
use Rattle.std.specs.Prelude.{◌≡◌, Some, Contains, ℕ, slice_get, List}
use Rattle.krates_cm.specs.Document.{Text, PackageModel, NodeDepModel, NodeModel, ResolveModel, MetadataModel}
use Rattle.krates_ids.specs.Identity.{Identity, Reads}
use Rattle.krates_rules.specs.Facts.{Id}

-- the three parts by which ids are equal
abbrev pub id_of : Identity → Id
id_of i = record { name = i.name; version = i.version; source = i.source }

-- the text is read as this id
pub record ReadsAs (t : Text) (i : Id) : Type 0 where
  pub read : Identity
  pub reads : Reads t read
  pub same : id_of read ≡ i

-- a document that has a resolved graph
pub record Resolved : Type 0 where
  pub metadata : MetadataModel
  pub graph : ResolveModel

-- the document with this graph
abbrev pub resolved : MetadataModel → ResolveModel → Resolved
resolved m g = record { metadata = m; graph = g }

-- the document has a resolved graph for which this holds
pub record HasGraphWith (m : MetadataModel) (P : ResolveModel → Type 0) : Type 0 where
  pub graph : ResolveModel
  pub has_graph : m.resolve ≡ Some graph
  pub holds : P graph

-- the document has this package, and it has this id
pub record HasPackage (r : Resolved) (i : Id) (p : PackageModel) : Type 0 where
  pub among : Contains r.metadata.packages p
  pub id : ReadsAs p.id i

-- the document has no package with the id
abbrev pub NoPackage : Resolved → Id → Type 0
NoPackage r i = (p : PackageModel) → HasPackage r i p → ⊥

-- the graph has this node, and it has this id
pub record HasNode (r : Resolved) (i : Id) (n : NodeModel) : Type 0 where
  pub among : Contains r.graph.nodes n
  pub id : ReadsAs n.id i

-- the graph has no node with the id
abbrev pub NoNode : Resolved → Id → Type 0
NoNode r i = (n : NodeModel) → HasNode r i n → ⊥

-- the node has this dependency, and it has this id
pub record HasDep (n : NodeModel) (i : Id) (d : NodeDepModel) : Type 0 where
  pub among : Contains n.deps d
  pub id : ReadsAs d.pkg i

-- a member of the workspace has the id
pub record IsMember (r : Resolved) (i : Id) : Type 0 where
  pub text : Text
  pub among : Contains r.metadata.workspace_members text
  pub id : ReadsAs text i

pub record NodeAt (r : Resolved) (i : Id) (place : ℕ) : Type 0 where
  pub node : NodeModel
  pub at : slice_get r.graph.nodes place ≡ Some node
  pub id : ReadsAs node.id i

-- a package with the id is at this place of the document
pub record PackageAt (r : Resolved) (i : Id) (place : ℕ) : Type 0 where
  pub pkg : PackageModel
  pub at : slice_get r.metadata.packages place ≡ Some pkg
  pub id : ReadsAs pkg.id i

-- the dependency of the node at these places leads from the parent to the child
pub record DepAt (r : Resolved) (parent child : Id) (place index : ℕ) : Type 0 where
  pub node : NodeAt r parent place
  pub dep : NodeDepModel
  pub at : slice_get node.node.deps index ≡ Some dep
  pub id : ReadsAs dep.pkg child

-- the id is at this place of the list
pub record StandsAt (ids : List Identity) (id : Id) (place : ℕ) : Type 0 where
  pub there : Identity
  pub at : slice_get ids place ≡ Some there
  pub same : id_of there ≡ id
