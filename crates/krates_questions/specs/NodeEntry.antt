-- The node of a kept crate, and each of its dependencies together with what its package declares.
use Rattle.std.specs.List.{AllZip}
use Rattle.std.specs.Prelude.{◌≡◌, ℕ, Contains, List, MatchOption, Option, Some, map, slice_get}
use Rattle.semver.specs.Identifiers.{parts_of}
use Rattle.krates_cm.specs.Document.{DependencyModel, DepKindInfoModel, NodeModel, PackageModel, dep_kind_info_view, node_dep_view, dependency_view}
use Rattle.krates_cm.specs.declared.resolve.DepKindInfo.{DepKindInfo}
use Rattle.krates_document.specs.DeclaredPlaces.{AreDeclaredPlaces}
use Rattle.krates_document.specs.declared.named_places.NamedPlace.{NamedPlace}
use Rattle.krates_rules.specs.Admission.{AreDepIds, HasThisVersion}
use Rattle.krates_rules.specs.Facts.{Id, Edge}
use Rattle.krates_rules.specs.NamedIds.{IsReadOf}
use Rattle.krates_rules.specs.Resolved.{DepAt, NodeAt, Resolved, id_of, HasPackage, HasNode, HasDep}
use Rattle.krates_questions.specs.Lookup.{TellsMember}
use Rattle.krates_rules.specs.DeclaredDependency.{DependencyEntry, FirstAt, IsDeclared, IsUndeclared, dependency_entry}
use Rattle.krates_questions.specs.declared.node_entry.EntryEdge.{EntryEdge}
use Rattle.krates_questions.specs.declared.node_entry.NodeEntry.{NodeEntry}
use Rattle.krates_questions.specs.declared.node_entry.NodeParts.{NodeParts}
use Rattle.krates_rules.specs.Questions.{edge_between}

-- these are the dependencies that the package of the crate declares; none where it has no package
pub record AreDeclaredBy (r : Resolved) (i : Id) (ds : List DependencyModel) : Type 0 where
  pub each : (p : PackageModel) → HasPackage r i p → p.dependencies ≡ ds
  pub from : (place : ℕ) (d : DependencyModel) → slice_get ds place ≡ Some d → (p : PackageModel) × HasPackage r i p

-- these are the parts of the node at the place, whose id is read from the document
pub record AreParts (r : Resolved) (place : ℕ) (x : NodeParts) : Type 0 where
  pub at : NodeAt r (id_of x.parent.now) place
  pub has_node : HasNode r (id_of x.parent.now) at.node
  pub deps : at.node.deps ≡ map node_dep_view x.deps.now
  pub children : AreDepIds at.node x.children.now
  pub versions : AllZip HasThisVersion x.children.now (map parts_of x.versions.now)
  pub declares : AreDeclaredBy r (id_of x.parent.now) (map dependency_view x.declared.now)
  pub tells : TellsMember r (id_of x.parent.now) x.is_member
  pub place_is : x.place.index ≡ place
  pub read : IsReadOf r x.parent.now

-- the crate of a node's parts
abbrev pub krate_of : NodeParts → Id
krate_of parts = id_of parts.parent.now

abbrev pub parent_of : NodeEntry → Id
parent_of x = id_of x.parent.now

abbrev pub child_of : NodeEntry → Id
child_of x = id_of x.child.now

abbrev pub declared_in : NodeEntry → List DependencyModel
declared_in x = map dependency_view x.declared.now

abbrev pub entry_of : NodeEntry → DependencyEntry
entry_of x = dependency_entry (child_of x) (node_dep_view x.dep.now)

-- the version is that of the crate that is depended on
abbrev pub HasItsVersion : NodeEntry → Type 0
HasItsVersion x = HasThisVersion x.child.now (parts_of x.version.now)

-- the parts of an entry are consistent, and its ids are read from the document
pub record IsEntry (r : Resolved) (x : NodeEntry) : Type 0 where
  pub node : NodeModel
  pub has_node : HasNode r (parent_of x) node
  pub has_dep : HasDep node (child_of x) (node_dep_view x.dep.now)
  pub version : HasItsVersion x
  pub declares : AreDeclaredBy r (parent_of x) (declared_in x)
  pub tells : TellsMember r (parent_of x) x.is_member
  pub at : DepAt r (parent_of x) (child_of x) x.place.index x.index
  pub parent_read : IsReadOf r x.parent.now
  pub child_read : IsReadOf r x.child.now

-- the entry is that at this place of the node
pub record IsEntryOf (parts : NodeParts) (at : ℕ) (x : NodeEntry) : Type 0 where
  pub parent : x.parent.now ≡ parts.parent.now
  pub declared : x.declared.now ≡ parts.declared.now
  pub dep : slice_get parts.deps.now at ≡ Some x.dep.now
  pub child : slice_get parts.children.now at ≡ Some x.child.now
  pub version : slice_get parts.versions.now at ≡ Some x.version.now
  pub place : x.place ≡ parts.place
  pub index : x.index ≡ at
  pub is_member : x.is_member ≡ parts.is_member

-- the edge of an entry
abbrev pub edge_for : NodeEntry → DepKindInfoModel → Edge
edge_for x k = edge_between (parent_of x) (child_of x) k

abbrev pub edge_of : EntryEdge → Edge
edge_of x = edge_for x.entry.now (dep_kind_info_view x.info.now)

-- what the package of the crate declares is listed there by name
abbrev pub TellsDeclaredPlaces : Resolved → Id → List NamedPlace → Type 0
TellsDeclaredPlaces r i places = (ds : List DependencyModel) → AreDeclaredBy r i ds → AreDeclaredPlaces ds places

-- the places are those of what the package of the kept crate declares
abbrev pub HasItsPlaces : EntryEdge → Type 0
HasItsPlaces x = AreDeclaredPlaces (declared_in x.entry.now) x.places.now

-- the place of the declared dependency that the edge comes from; or none is it
abbrev pub TellsItsDeclared : EntryEdge → Option ℕ → Type 0
TellsItsDeclared x answer =
    let declared = declared_in x.entry.now in
    let entry = entry_of x.entry.now in
    let k = dep_kind_info_view x.info.now in
    MatchOption answer (IsUndeclared declared entry k) (λ place. (d : DependencyModel) × IsDeclared declared entry k place d)

-- the dependency lists this kind and target
abbrev pub ListsInfo : NodeEntry → DepKindInfo → Type 0
ListsInfo x info = Contains (map dep_kind_info_view x.dep.now.dep_kinds.items) (dep_kind_info_view info)

abbrev pub IsListedEdge : EntryEdge → Type 0
IsListedEdge x = ListsInfo x.entry.now x.info.now

-- the first place of this kind and target in the list
abbrev pub IsFirstInfo : List DepKindInfo → DepKindInfo → ℕ → Type 0
IsFirstInfo infos info place =
    FirstAt (λ k. k ≡ dep_kind_info_view info) (map dep_kind_info_view infos) place (dep_kind_info_view info)
