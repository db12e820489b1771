-- The declared dependencies of a crate, each with the edges of the document by which it is resolved.
use Rattle.std.specs.Prelude.{◌≡◌, Contains}
use Rattle.krates_cm.specs.Document.{Text, DepKindInfoModel, DependencyModel, NodeDepModel, PackageModel, TargetModel, dep_kind_info_view, dependency_view}
use Rattle.krates_rules.specs.DeclaredDependency.{VersionFits, dependency_entry}
use Rattle.krates_rules.specs.DependencyName.{IsNameOf}
use Rattle.krates_rules.specs.Facts.{Id, Edge}
use Rattle.krates_rules.specs.Questions.{ListsEdge, edge_between}
use Rattle.krates_rules.specs.Resolved.{Resolved, HasPackage, id_of}
use Rattle.krates_units.specs.BuildTargets.{IsLibrary}
use Rattle.krates_units.specs.Resolves.{IsCalled}
use Rattle.krates_build_tables.specs.declared.pairs.Pair.{Pair}

-- the edge, and the declared dependency
abbrev pub pair_view : Pair → Edge × DependencyModel
pair_view p = (edge_between (id_of p.parent.now) (id_of p.child.now) (dep_kind_info_view p.info.now), dependency_view p.declared.now)

-- the target is a library that code calls by this name
abbrev pub IsLibraryCalled : Text → TargetModel → Type 0
IsLibraryCalled name t = IsLibrary t × IsNameOf name t.name

-- the declared dependency fits this dependency of a node, on this crate, whatever its kind and target
pub record FitsChild (r : Resolved) (c : Id) (dep : NodeDepModel) (d : DependencyModel) : Type 0 where
  pub pkg : PackageModel
  pub has_package : HasPackage r c pkg
  pub name : d.name ≡ c.name
  pub version : VersionFits (dependency_entry c dep) d
  pub called : IsCalled r c d dep.name

-- the declared dependency is of this kind and for this target
abbrev pub FitsInfo : DepKindInfoModel → DependencyModel → Type 0
FitsInfo k d = (d.kind ≡ k.kind) × (d.target ≡ k.target)

-- a kind and a target that a dependency of a node lists give this edge, where the declared dependency is of them
abbrev pub GivesBy : (p c : Id) → DependencyModel → DepKindInfoModel → Edge × DependencyModel → Type 0
GivesBy p c d k b = FitsInfo k d × (b ≡ (edge_between p c k, d))

-- a dependency of a node gives this edge
abbrev pub GivesOf : Resolved → (p c : Id) → NodeDepModel → DependencyModel → Edge × DependencyModel → Type 0
GivesOf r p c dep d b = FitsChild r c dep d × ((k : DepKindInfoModel) × Contains dep.dep_kinds k × GivesBy p c d k b)

-- the edge resolves the dependency, if its parent declares it
pub record IsResolvedBy (r : Resolved) (e : Edge) (d : DependencyModel) : Type 0 where
  pub dep : NodeDepModel
  pub lists : ListsEdge r e dep
  pub kind : d.kind ≡ e.kind
  pub target : d.target ≡ e.cfg
  pub fits : FitsChild r e.child dep d

-- an edge of the crate resolves this dependency
abbrev pub PairsFor : Resolved → Id → DependencyModel → Edge × DependencyModel → Type 0
PairsFor r i d b = (b.1 ≡ d) × (b.0.parent ≡ i) × IsResolvedBy r b.0 d

-- no edge of the crate resolves the dependency, if the crate declares it
abbrev pub IsUnresolved : Resolved → Id → DependencyModel → Type 0
IsUnresolved r i d = (e : Edge) → e.parent ≡ i → IsResolvedBy r e d → ⊥
