-- What there is for a crate, and what is needed for an edge, said so that each answer refutes the others.
use Rattle.std.specs.Prelude.{◌↔◌, Bool, IsTrue, List, ◌≡◌, Option, MatchOption}
use Rattle.std.specs.List.{AllZip}
use Rattle.krates_cm.specs.Document.{PackageModel, DependencyModel, DepKindInfoModel, NodeModel, NodeDepModel, dependency_view}
use Rattle.krates_rules.specs.Facts.{Id, Edge}
use Rattle.krates_rules.specs.Resolved.{NodeAt, Resolved, NoPackage, HasNode, HasDep}
use Rattle.krates_rules.specs.Questions.{IsIncluded, Stands, LacksNode, IsLeftOut, ListsEdge, IsDeclaredAs, IsWanted, IsLoose, edge_between}
use Rattle.krates_rules.specs.Setting.{IsExcluded, SettingModel}
use Rattle.krates_questions.specs.declared.availability.Availability.{Availability}
use Rattle.krates_questions.specs.declared.availability.Availability.TheVariants as available
use Rattle.std.specs.Borrow.{Bor}
use Rattle.krates_cm.specs.declared.dependency.Dependency.{Dependency}
use Rattle.krates_questions.specs.declared.dependency_questions.Need.{Need}
use Rattle.krates_questions.specs.declared.dependency_questions.Need.TheVariants as needs

-- the crate has a package that is excluded, and none that isn't
pub record IsExcludedOnly (r : Resolved) (s : SettingModel) (i : Id) : Type 0 where
  pub left_out : IsLeftOut r s i
  pub excluded : IsIncluded r s i → ⊥

-- the crate stands, with its node at this place, or lacks a package, or lacks a node, or is excluded: each answer refutes the others
abbrev pub IsAvailability : Resolved → SettingModel → Id → Availability → Type 0
IsAvailability r s i (available.Available place) = Stands r s i × NodeAt r i place.index
IsAvailability r s i available.NoPackage = NoPackage r i
IsAvailability r s i available.NoNode = LacksNode r s i
IsAvailability r s i available.Excluded = IsExcludedOnly r s i

-- the answer tells whether the package is excluded
abbrev pub TellsExcluded : SettingModel → PackageModel → Bool → Type 0
TellsExcluded s p answer = IsTrue answer ↔ IsExcluded s p

-- each answer tells it of the package at its place
abbrev pub AreExclusions : Resolved → SettingModel → List Bool → Type 0
AreExclusions r s answers = AllZip (TellsExcluded s) r.metadata.packages answers

-- ---- what is needed for an edge

-- the edge is wanted as this dependency, and as no other
pub record IsWantedAs (r : Resolved) (s : SettingModel) (e : Edge) (d : DependencyModel) : Type 0 where
  pub wanted : IsWanted r s e d
  pub only : (other : DependencyModel) → IsWanted r s e other → other ≡ d
  pub not_loose : IsLoose r s e → ⊥

-- the edge isn't wanted
abbrev pub NotWanted : Resolved → SettingModel → Edge → Type 0
NotWanted r s e = (d : DependencyModel) → IsWanted r s e d → ⊥

-- the edge is wanted, or undeclared, or neither
abbrev pub TellsNeed : Resolved → SettingModel → Edge → Need → Type 0
TellsNeed r s e (needs.Wanted d) = IsWantedAs r s e (dependency_view d.now)
TellsNeed r s e needs.Undeclared = IsLoose r s e × NotWanted r s e
TellsNeed r s e needs.Nothing = NotWanted r s e × (IsLoose r s e → ⊥)

-- the edge is declared as this dependency, and as no other
pub record IsDeclaredOnly (r : Resolved) (e : Edge) (d : DependencyModel) : Type 0 where
  pub declared : IsDeclaredAs r e d
  pub only : (other : DependencyModel) → IsDeclaredAs r e other → other ≡ d

-- the dependency that the edge is declared as, or none if it isn't declared
abbrev pub TellsDeclaration : Resolved → Edge → Option (Bor Dependency) → Type 0
TellsDeclaration r e answer =
    MatchOption answer ((d : DependencyModel) → IsDeclaredAs r e d → ⊥) (λ d. IsDeclaredOnly r e (dependency_view d.now))

-- the node of the crate depends on the other
pub record HasChild (r : Resolved) (p child : Id) : Type 0 where
  pub node : NodeModel
  pub has_node : HasNode r p node
  pub dep : NodeDepModel
  pub has_dep : HasDep node child dep

-- and lists it with this kind and for this target
pub record ListsKind (r : Resolved) (p child : Id) (k : DepKindInfoModel) : Type 0 where
  pub dep : NodeDepModel
  pub lists : ListsEdge r (edge_between p child k) dep
