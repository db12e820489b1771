-- By which edge of the document a declared dependency is resolved (Cargo Book, "cargo metadata", `dependencies` and `resolve`).
use Rattle.std.specs.Prelude.{◌≡◌, Some, None, Contains}
use Rattle.krates_cm.specs.Document.{Text, PackageModel, NodeDepModel, DependencyModel, TargetModel}
use Rattle.krates_rules.specs.DeclaredDependency.{dependency_entry, VersionFits}
use Rattle.krates_rules.specs.DependencyName.{IsNameOf}
use Rattle.krates_rules.specs.Facts.{Id, Edge}
use Rattle.krates_rules.specs.Questions.{ListsEdge}
use Rattle.krates_rules.specs.Resolved.{Resolved, HasPackage}
use Rattle.krates_units.specs.BuildTargets.{IsLibrary, HasTarget}

-- the crate's package declares the dependency
pub record HasDeclared (r : Resolved) (i : Id) (d : DependencyModel) : Type 0 where
  pub pkg : PackageModel
  pub has_package : HasPackage r i pkg
  pub among : Contains pkg.dependencies d

-- code that has the dependency, on this crate, calls it by this name: by its new name if it has one, else by that of the crate's
-- library (Cargo Book, "Renaming dependencies in Cargo.toml")
pub data IsCalled (r : Resolved) (child : Id) (d : DependencyModel) : Text → Type 0 where
  renamed : {name called : Text} → d.rename ≡ Some name → IsNameOf called name → IsCalled r child d called
  by_library : {called : Text} (t : TargetModel) → d.rename ≡ None → HasTarget r child t → IsLibrary t
      → IsNameOf called t.name → IsCalled r child d called

-- The declared dependency is resolved by the edge: the parent's node lists it, for the same kind and target text, under the name
-- by which code calls it, and its child has a package, is of the declared name and of a version that the requirement allows.
pub record Resolves (r : Resolved) (e : Edge) (d : DependencyModel) : Type 0 where
  pub pkg : PackageModel
  pub has_package : HasPackage r e.child pkg
  pub declared : HasDeclared r e.parent d
  pub dep : NodeDepModel
  pub lists : ListsEdge r e dep
  pub kind : d.kind ≡ e.kind
  pub target : d.target ≡ e.cfg
  pub name : d.name ≡ e.child.name
  pub version : VersionFits (dependency_entry e.child dep) d
  pub called : IsCalled r e.child d dep.name

-- the crate declares the dependency, and the document has no edge for it
pub record LacksEdge (r : Resolved) (i : Id) (d : DependencyModel) : Type 0 where
  pub declared : HasDeclared r i d
  pub no_edge : (e : Edge) → e.parent ≡ i → ¬ Resolves r e d
