-- Which documents can be resolved at all: there is a resolved graph, each id that matters is read, and none is
-- doubled (Cargo Book, "cargo metadata", "JSON format").
use Rattle.std.specs.Prelude.{◌≡◌, ℕ, ◌<◌, List, Option, Some, None, map, Contains, slice_get, MatchOption, IsSomeAnd}
use Rattle.std.specs.List.{AllZip}
use Rattle.krates_cm.specs.Document.{Text, VersionModel, NodeModel, ResolveModel, MetadataModel}
use Rattle.krates_cm.specs.Names.{version_named}
use Rattle.krates_ids.specs.Identity.{Identity, Reads}
use Rattle.krates_rules.specs.Facts.{Id}
use Rattle.krates_rules.specs.Resolved.{ReadsAs}

-- ---- the texts of a document that must be ids

-- the id texts of the packages
abbrev pub package_texts : MetadataModel → List Text
package_texts m = map (λ p. p.id) m.packages

-- the id texts of the nodes
abbrev pub node_texts : ResolveModel → List Text
node_texts g = map (λ n. n.id) g.nodes

-- those of the dependencies of a node
abbrev pub dep_texts : NodeModel → List Text
dep_texts n = map (λ d. d.pkg) n.deps

-- ---- texts that are read

-- the version of the id is semantic, and this is it
abbrev pub HasThisVersion : Identity → VersionModel → Type 0
HasThisVersion i version = version_named i.version ≡ Some version

-- these are the ids of the node's dependencies
abbrev pub AreDepIds : NodeModel → List Identity → Type 0
AreDepIds n ids = AllZip Reads (dep_texts n) ids

-- this is the root's id, or there is no root and no id
abbrev pub IsRootId : Option Text → Option Identity → Type 0
IsRootId text root = MatchOption text (root ≡ None) (λ t. IsSomeAnd root (Reads t))

-- the ids of a document, in its order
pub record IdsModel : Type 0 where
  pub packages : List Identity
  pub members : List Identity
  pub root : Option Identity
  pub nodes : List Identity
  -- those of the dependencies of each node
  pub deps : List (List Identity)
  -- the versions of these, read
  pub versions : List (List VersionModel)

-- these are the ids of the document, place by place
pub record AreIdsOf (m : MetadataModel) (g : ResolveModel) (ids : IdsModel) : Type 0 where
  pub packages : AllZip Reads (package_texts m) ids.packages
  pub members : AllZip Reads m.workspace_members ids.members
  pub root : IsRootId g.root ids.root
  pub nodes : AllZip Reads (node_texts g) ids.nodes
  pub deps : AllZip AreDepIds g.nodes ids.deps
  pub versions : AllZip (AllZip HasThisVersion) ids.deps ids.versions

-- ---- texts that don't read

-- a text that must be an id
pub data StandsForId (m : MetadataModel) (g : ResolveModel) (t : Text) : Type 0 where
  of_package : Contains (package_texts m) t → StandsForId m g t
  of_member : Contains m.workspace_members t → StandsForId m g t
  of_root : g.root ≡ Some t → StandsForId m g t
  of_node : Contains (node_texts g) t → StandsForId m g t
  of_dep : (n : NodeModel) → Contains g.nodes n → Contains (dep_texts n) t → StandsForId m g t

-- a text that must be an id and isn't one, or that of a dependency without a semantic version
pub data IsInvalidId (m : MetadataModel) (g : ResolveModel) (t : Text) : Type 0 where
  unread : StandsForId m g t → ((i : Identity) → Reads t i → ⊥) → IsInvalidId m g t
  bad_version : (n : NodeModel) → Contains g.nodes n → Contains (dep_texts n) t → (i : Identity) → Reads t i → version_named i.version ≡ None → IsInvalidId m g t

-- ---- ids that occur twice

-- P holds at two places of a list
pub record HoldsTwice {A : Type 0} (P : A → Type 0) (xs : List A) : Type 0 where
  pub first : ℕ
  pub second : ℕ
  pub apart : first < second
  pub one : A
  pub other : A
  pub at_first : slice_get xs first ≡ Some one
  pub at_second : slice_get xs second ≡ Some other
  pub one_holds : P one
  pub other_holds : P other

-- two texts of a list read as the id
abbrev pub IsDoubledIn : List Text → Id → Type 0
IsDoubledIn texts id = HoldsTwice (λ t. ReadsAs t id) texts

-- two packages, two nodes, or two dependencies of one node have the id; two identical packages count too
pub data IsDoubled (m : MetadataModel) (g : ResolveModel) (id : Id) : Type 0 where
  doubled_package : IsDoubledIn (package_texts m) id → IsDoubled m g id
  doubled_node : IsDoubledIn (node_texts g) id → IsDoubled m g id
  doubled_dep : (n : NodeModel) → Contains g.nodes n → IsDoubledIn (dep_texts n) id → IsDoubled m g id

-- no id is doubled
abbrev pub NoneDoubled : MetadataModel → ResolveModel → Type 0
NoneDoubled m g = (id : Id) → IsDoubled m g id → ⊥

-- ---- the document is admitted

-- the document has a resolved graph, these are its ids, and none is doubled
pub record IsAdmitted (m : MetadataModel) (ids : IdsModel) : Type 0 where
  pub graph : ResolveModel
  pub has_graph : m.resolve ≡ Some graph
  pub read : AreIdsOf m graph ids
  pub none_doubled : NoneDoubled m graph
