-- Which dependency a name in a feature reference means (Cargo Book, "Features" and "cargo metadata", `resolve`).
use Rattle.std.specs.Prelude.{◌≡◌, ◌≢◌, ◌↔◌, ℕ, List, Bool, false, Contains}
use Rattle.std.specs.List.Sorted.{IsStrictlySortedBy}
use Rattle.std.specs.declared.cmp.Ordering.{Ordering}
use Rattle.std.specs.declared.cmp.Ordering.TheVariants.{Greater}
use Rattle.krates_cm.specs.Document.{Text, TargetModel, PackageModel, NodeDepModel, NodeModel}
use Rattle.krates_cm.specs.declared.target.TargetKind.TheVariants.{Lib}
use Rattle.krates_ids.specs.Identity.{by_texts}
use Rattle.krates_rules.specs.DeclaredDependency.{FirstAt}
use Rattle.krates_rules.specs.DependencyName.{IsNameOf}
use Rattle.krates_rules.specs.Facts.{Id}
use Rattle.krates_rules.specs.Resolved.{Resolved, HasPackage, HasNode, HasDep}

-- the library of the package, which is the first target of kind `lib`, has this name, and the package has another
pub record IsLibraryRename (p : PackageModel) (name : Text) : Type 0 where
  pub place : ℕ
  pub target : TargetModel
  pub first : FirstAt (λ t. Contains t.kind Lib) p.targets place target
  pub is : target.name ≡ name
  pub other : IsNameOf name p.name → ⊥

-- A dependency of a node matches a name: its own, or that of its package if its own is the name of the package's library.
pub data AnswersTo (r : Resolved) (child : Id) (d : NodeDepModel) (name : Text) : Type 0 where
  by_name : IsNameOf d.name name → AnswersTo r child d name
  by_library : {p : PackageModel} → name ≡ child.name → HasPackage r child p → IsLibraryRename p d.name → AnswersTo r child d name

-- the order of ids: by name, version text and source, as bytes
abbrev pub id_order : Id → Id → Ordering
id_order = by_texts (λ i. i.name) (λ i. i.version) (λ i. i.source)

-- the node of the crate has this dependency, and it matches the name
pub record AnswersIn (r : Resolved) (i : Id) (name : Text) (child : Id) : Type 0 where
  pub node : NodeModel
  pub has_node : HasNode r i node
  pub dep : NodeDepModel
  pub has_dep : HasDep node child dep
  pub answers : AnswersTo r child dep name

-- What a name means in a reference of the crate: all dependencies of its node that match it, or only the least of them, by id.
pub record IsReferent (r : Resolved) (all : Bool) (i : Id) (name : Text) (child : Id) : Type 0 where
  pub is_named : AnswersIn r i name child
  pub least : all ≡ false → (other : Id) → AnswersIn r i name other → id_order child other ≢ Greater

-- all that a name means, in the order of ids
pub record AreReferents (r : Resolved) (all : Bool) (i : Id) (name : Text) (ids : List Id) : Type 0 where
  pub exactly : (c : Id) → Contains ids c ↔ IsReferent r all i name c
  pub ascending : IsStrictlySortedBy id_order ids
