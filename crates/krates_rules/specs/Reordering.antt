-- Documents that differ in the order of their lists alone, and what doesn't depend on it.
use Rattle.std.specs.Prelude.{◌≡◌, ◌↔◌, List, Bool, Option, Some, None, MatchOption, Contains, IsSomeAnd, IsPermutation}
use Rattle.std.specs.List.{AllZip}
use Rattle.krates_cm.specs.Document.{Text, PackageModel, NodeDepModel, NodeModel, ResolveModel, MetadataModel}
use Rattle.krates_ids.specs.Correction.{named, with_features}
use Rattle.krates_ids.specs.declared.error.Error.{Error}
use Rattle.krates_rules.specs.Admission.{IsInvalidId, IsDoubled, NoneDoubled}
use Rattle.krates_rules.specs.AdmissionRefusals.{AdmissionRefusal}
use Rattle.krates_rules.specs.Facts.{Id, Edge, Fact}
use Rattle.krates_rules.specs.Questions.{ListsEdge}
use Rattle.krates_rules.specs.Referent.{IsReferent}
use Rattle.krates_rules.specs.Resolution.{IsDerived, RefusesSelection}
use Rattle.krates_rules.specs.Resolved.{Resolved, HasPackage, HasNode, HasGraphWith, resolved}
use Rattle.krates_rules.specs.Setting.{SettingModel}

-- ---- documents in another order

-- the packages are equal, except for the order in which their features are listed
pub record ReordersPackage (a b : PackageModel) : Type 0 where
  pub features : (name : Text) → named a.features name ≡ named b.features name
  pub rest : b ≡ with_features a b.features

-- the packages of the second are those of the first, in any order
pub record ReordersPackages (all other : List PackageModel) : Type 0 where
  -- those of the first at their places, each as the second has it
  pub packages : List PackageModel
  pub each : AllZip ReordersPackage all packages
  pub moved : IsPermutation packages other

-- the nodes are equal, except for the order of their dependencies and of their features
pub record ReordersNode (a b : NodeModel) : Type 0 where
  pub deps : IsPermutation a.deps b.deps
  -- the ids of the dependencies, which the node also lists on their own
  pub dependencies : IsPermutation a.dependencies b.dependencies
  pub features : IsPermutation a.features b.features
  pub rest : b ≡ record a { deps = b.deps; dependencies = b.dependencies; features = b.features }

-- the graphs have the same root, and the same nodes except for their order and the order within each
pub record ReordersGraph (g h : ResolveModel) : Type 0 where
  -- the nodes of the first at their places, each as the second has it
  pub nodes : List NodeModel
  pub each : AllZip ReordersNode g.nodes nodes
  pub moved : IsPermutation nodes h.nodes
  pub root : h.root ≡ g.root

-- both graphs are there, and one reorders the other, or neither is
abbrev pub ReordersResolve : Option ResolveModel → Option ResolveModel → Type 0
ReordersResolve a b = MatchOption a (b ≡ None) (λ g. IsSomeAnd b (ReordersGraph g))

-- the documents are equal, except for the order of their packages and members, and of what their graphs list
pub record Reorders (m n : MetadataModel) : Type 0 where
  pub packages : ReordersPackages m.packages n.packages
  pub members : IsPermutation m.workspace_members n.workspace_members
  pub resolve : ReordersResolve m.resolve n.resolve
  pub rest : n ≡ record m { packages = n.packages; workspace_members = n.workspace_members; resolve = n.resolve }

-- ---- what is the same of both

-- the text is an invalid id of the document
abbrev pub HasInvalidId : MetadataModel → Text → Type 0
HasInvalidId m t = HasGraphWith m (λ g. IsInvalidId m g t)

-- the id is doubled in the document
abbrev pub HasDoubledId : MetadataModel → Id → Type 0
HasDoubledId m id = HasGraphWith m (λ g. IsDoubled m g id)

-- the documents say the same of each crate, of each edge and of each name
pub record SayAlike (r t : Resolved) : Type 0 where
  -- the packages of an id differ in the order of their features alone
  pub packages : (i : Id) (p q : PackageModel) → HasPackage r i p → HasPackage t i q → ReordersPackage p q
  -- the nodes of an id list the same features
  pub features : (i : Id) (n o : NodeModel) → HasNode r i n → HasNode t i o → (f : Text) → Contains n.features f ↔ Contains o.features f
  -- one dependency lists an edge
  pub deps : (e : Edge) (d c : NodeDepModel) → ListsEdge r e d → ListsEdge t e c → d ≡ c
  -- a name means the same crates in the references of a crate
  pub referents : (all : Bool) (i : Id) (name : Text) (c : Id) → IsReferent r all i name c ↔ IsReferent t all i name c

-- what is resolved of one document is resolved of the other, and what refuses one refuses the other
pub record ResolveAlike (m n : MetadataModel) : Type 0 where
  -- the same facts have derivations, those of what is lost included
  pub facts : (s : SettingModel) (f : Fact) → IsDerived m s f ↔ IsDerived n s f
  -- both have a graph, or neither
  pub no_graph : (m.resolve ≡ None) ↔ (n.resolve ≡ None)
  -- the same texts are invalid ids
  pub invalid : (t : Text) → HasInvalidId m t ↔ HasInvalidId n t
  -- the same ids are doubled
  pub doubled : (id : Id) → HasDoubledId m id ↔ HasDoubledId n id
  -- both are refused before resolution for the same causes
  pub refused : (e : Error) → AdmissionRefusal m e ↔ AdmissionRefusal n e
  -- and in resolution
  pub unselected : (s : SettingModel) (e : Error) → RefusesSelection m s e ↔ RefusesSelection n s e
  -- where no id is doubled, both say the same of each crate, edge and name
  pub says : (g h : ResolveModel) → m.resolve ≡ Some g → n.resolve ≡ Some h → NoneDoubled n h → SayAlike (resolved m g) (resolved n h)

-- documents that differ in order alone resolve alike
abbrev pub IsOrderFree : Type 0
IsOrderFree = (m n : MetadataModel) → Reorders m n → ResolveAlike m n
