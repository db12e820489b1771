-- What a document and a setting answer the rules.
use Rattle.std.specs.Prelude.{ℕ, Contains}
use Rattle.krates_cm.specs.Document.{DependencyModel, DepKindInfoModel, PackageModel, NodeDepModel, NodeModel}
use Rattle.krates_rules.specs.Facts.{Id, Edge}
use Rattle.krates_rules.specs.Features.{ListsFeature, LacksFeature, HasReference}
use Rattle.krates_rules.specs.Referent.{IsReferent}
use Rattle.krates_rules.specs.Rules.{Questions}
use Rattle.krates_rules.specs.Resolved.{Resolved, HasPackage, NoPackage, HasNode, NoNode, HasDep}
use Rattle.krates_rules.specs.DeclaredDependency.{dependency_entry, IsDeclared, IsUndeclared}
use Rattle.krates_rules.specs.Roots.{IsRoot}
use Rattle.krates_rules.specs.Setting.{SettingModel, IsExcluded, IsIgnored, Passes}

-- ---- crates

-- the crate has a package that isn't excluded
pub record IsIncluded (r : Resolved) (s : SettingModel) (i : Id) : Type 0 where
  pub pkg : PackageModel
  pub has_package : HasPackage r i pkg
  pub not_excluded : IsExcluded s pkg → ⊥

-- the crate has a package that isn't excluded, and a node
pub record Stands (r : Resolved) (s : SettingModel) (i : Id) : Type 0 where
  pub included : IsIncluded r s i
  pub node : NodeModel
  pub has_node : HasNode r i node

-- the crate has a package that isn't excluded, and no node
pub record LacksNode (r : Resolved) (s : SettingModel) (i : Id) : Type 0 where
  pub included : IsIncluded r s i
  pub no_node : NoNode r i

-- ---- edges

-- the kind and the target of the edge
abbrev pub kind_info_of : Edge → DepKindInfoModel
kind_info_of e = record { kind = e.kind; target = e.cfg }

-- this dependency of the parent's node lists the edge
pub record ListsEdge (r : Resolved) (e : Edge) (d : NodeDepModel) : Type 0 where
  pub node : NodeModel
  pub has_node : HasNode r e.parent node
  pub has_dep : HasDep node e.child d
  pub has_kind : Contains d.dep_kinds (kind_info_of e)

-- the edge is listed, and declared as this dependency, which is at this place of its package's list
pub record Declares (r : Resolved) (e : Edge) (place : ℕ) (d : DependencyModel) : Type 0 where
  pub dep : NodeDepModel
  pub lists : ListsEdge r e dep
  pub pkg : PackageModel
  pub has_package : HasPackage r e.parent pkg
  pub declared : IsDeclared pkg.dependencies (dependency_entry e.child dep) (kind_info_of e) place d

-- the edge is declared as this dependency, at some place
abbrev pub IsDeclaredAs : Resolved → Edge → DependencyModel → Type 0
IsDeclaredAs r e d = (place : ℕ) × Declares r e place d

-- the edge is declared as this dependency, at this place, and isn't ignored
pub record IsDeclaredAt (r : Resolved) (s : SettingModel) (e : Edge) (place : ℕ) (d : DependencyModel) : Type 0 where
  pub declares : Declares r e place d
  pub not_ignored : IsIgnored r s e → ⊥

-- the edge is declared as this dependency, at some place, not ignored, and passes the targets
pub record IsWanted (r : Resolved) (s : SettingModel) (e : Edge) (d : DependencyModel) : Type 0 where
  pub place : ℕ
  pub declared : IsDeclaredAt r s e place d
  pub passes : Passes s e.cfg

-- the edge is listed, not ignored, and no package of its parent declares it
pub record IsLoose (r : Resolved) (s : SettingModel) (e : Edge) : Type 0 where
  pub dep : NodeDepModel
  pub lists : ListsEdge r e dep
  pub not_ignored : IsIgnored r s e → ⊥
  pub undeclared : (p : PackageModel) → HasPackage r e.parent p → IsUndeclared p.dependencies (dependency_entry e.child dep) (kind_info_of e)

-- ---- all questions of the rules

-- the questions of the rules, answered by this document and this setting
unfoldable pub questions : Resolved → SettingModel → Questions
questions r s = record {
  Root = IsRoot r s;
  Stands = Stands r s;
  NoPackage = NoPackage r;
  LacksNode = LacksNode r s;
  Lists = ListsFeature r;
  Lacks = LacksFeature r;
  Refers = HasReference r;
  Referent = IsReferent r s.all_named;
  Declared = IsDeclaredAs r;
  Wanted = IsWanted r s;
  Loose = IsLoose r s;
}

-- the crate has a package, which is excluded
pub record IsLeftOut (r : Resolved) (s : SettingModel) (i : Id) : Type 0 where
  pub pkg : PackageModel
  pub has_package : HasPackage r i pkg
  pub excluded : IsExcluded s pkg

-- the edge between two crates of one kind and for one target
abbrev pub edge_between : Id → Id → DepKindInfoModel → Edge
edge_between p c k = record { parent = p; child = c; kind = k.kind; cfg = k.target }
