-- Where the dependencies of a document are found by name.
use Rattle.std.specs.Prelude.{List, map, ◌≡◌, ℕ, Option, None, Some, MatchOption, Contains, slice_get}
use Rattle.std.specs.Global.{Vec}
use Rattle.std.specs.List.{AllZip}
use Rattle.krates_cm.specs.Document.{NodeModel, PackageModel, NodeDepModel, TargetModel}
use Rattle.krates_document.specs.DeclaredPlaces.{AreDeclaredPlaces}
use Rattle.krates_document.specs.NamedPlaces.{AreNamed, no_target, AreInOrder, StandsUnder}
use Rattle.krates_document.specs.declared.named_places.NamedPlace.{NamedPlace}
use Rattle.krates_ids.specs.Identity.{Identity}
use Rattle.krates_questions.specs.declared.name_index.NameIndex.{NameIndex}
use Rattle.krates_document.specs.CrateTable.{at_number}
use Rattle.krates_rules.specs.Referent.{IsLibraryRename}
use Rattle.krates_rules.specs.DeclaredDependency.{FirstAt}
use Rattle.krates_cm.specs.declared.target.TargetKind.TheVariants.{Lib}

abbrev pub lists_in : Vec (Vec NamedPlace) → List (List NamedPlace)
lists_in lists = map (λ (v : Vec NamedPlace). v.items) lists.items

-- what the package declares is listed there
abbrev pub AreDeclaredIn : PackageModel → List NamedPlace → Type 0
AreDeclaredIn p = AreDeclaredPlaces p.dependencies

-- the dependencies of the node are listed there by their own names
abbrev pub AreDepsOf : NodeModel → List NamedPlace → Type 0
AreDepsOf n = AreNamed (λ d. d.name) (λ d. no_target) n.deps

-- the ids are listed there by the names of their packages
abbrev pub AreIdsNamed : List Identity → List NamedPlace → Type 0
AreIdsNamed = AreNamed (λ i. i.name) (λ i. no_target)

-- the dependencies of these packages and nodes, which have these ids, are found by name
pub record IsNameIndex (packages : List PackageModel) (nodes : List NodeModel) (ids : List (List Identity)) (x : NameIndex) : Type 0 where
  pub declared : AllZip AreDeclaredIn packages (lists_in x.declared)
  pub deps : AllZip AreDepsOf nodes (lists_in x.deps)
  pub children : AllZip AreIdsNamed ids (lists_in x.children)

-- ---- those whose own name is that of their package's library

-- what is at the place, where there is one
abbrev pub standing_at : {A : Type 0} → List A → Option ℕ → Option A
standing_at xs None = None
standing_at xs (Some place) = slice_get xs place

-- the package whose place a table has at a number
abbrev pub package_numbered : List PackageModel → List (Option ℕ) → Option ℕ → Option PackageModel
package_numbered packages places number = standing_at packages (at_number places number)

-- the dependency is named as the library of the package that is found by the number
pub record IsRenamed (packages : List PackageModel) (places : List (Option ℕ)) (d : NodeDepModel) (number : Option ℕ) : Type 0 where
  pub pkg : PackageModel
  pub found : package_numbered packages places number ≡ Some pkg
  pub is : IsLibraryRename pkg d.name

-- the dependency at the place is
pub record IsRenamedAt (packages : List PackageModel) (places : List (Option ℕ)) (deps : List NodeDepModel) (numbers : List (Option ℕ)) (k : ℕ) : Type 0 where
  pub dep : NodeDepModel
  pub here : slice_get deps k ≡ Some dep
  pub number : Option ℕ
  pub at : slice_get numbers k ≡ Some number
  pub is : IsRenamed packages places dep number

-- of these dependencies, which have these ids and numbers, those that are so named are listed there by the names of their packages
pub record AreRenamed (packages : List PackageModel) (places : List (Option ℕ)) (deps : List NodeDepModel) (kids : List Identity) (numbers : List (Option ℕ)) (named : List NamedPlace) : Type 0 where
  pub sorted : AreInOrder named
  pub each : (k : ℕ) (c : Identity) → slice_get kids k ≡ Some c → IsRenamedAt packages places deps numbers k → StandsUnder named c.name no_target k

-- those of the node at a place
pub record HasRenamed (packages : List PackageModel) (places : List (Option ℕ)) (n : NodeModel) (kids : List Identity) (numbers : List (Option ℕ)) (lists : List (List NamedPlace)) (place : ℕ) : Type 0 where
  pub named : List NamedPlace
  pub at : slice_get lists place ≡ Some named
  pub are : AreRenamed packages places n.deps kids numbers named

-- those of each node
abbrev pub AreRenamedIn : List PackageModel → List (Option ℕ) → List NodeModel → List (List Identity) → List (List (Option ℕ)) → List (List NamedPlace) → Type 0
AreRenamedIn packages places nodes ids numbers lists =
    (place : ℕ) (n : NodeModel) (kids : List Identity) (own : List (Option ℕ)) → slice_get nodes place ≡ Some n → slice_get ids place ≡ Some kids → slice_get numbers place ≡ Some own → HasRenamed packages places n kids own lists place

-- ---- the library of a package

-- the library of the package, which is its first target of kind `lib`, or none if it has none
abbrev pub IsLibraryOf : PackageModel → Option TargetModel → Type 0
IsLibraryOf p answer =
    MatchOption answer ((place : ℕ) (t : TargetModel) → slice_get p.targets place ≡ Some t → Contains t.kind Lib → ⊥) (λ t. (place : ℕ) × FirstAt (λ t. Contains t.kind Lib) p.targets place t)
