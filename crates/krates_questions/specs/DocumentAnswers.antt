-- The answers of a document to each question of the rules.
use Rattle.std.specs.Prelude.{◌≡◌, List, [], ◌∷◌, Bool, Contains, MatchBool, ◌↔◌, ℕ, Option, false, MatchOption, map}
use Rattle.std.specs.List.{AllZip}
use Rattle.krates_rules.specs.Facts.{Id, Edge}
use Rattle.krates_rules.specs.Resolved.{Resolved, ReadsAs, id_of, NoNode, HasNode, HasDep}
use Rattle.krates_rules.specs.Roots.{IsRoot, AsksForWorkspace, AsksForMembers}
use Rattle.krates_rules.specs.Setting.{SettingModel}
use Rattle.krates_cm.specs.Document.{Text, DependencyModel, dep_kind_info_view, DepKindInfoModel, NodeDepModel, NodeModel, node_dep_view}
use Rattle.krates_text.specs.Path.{components}
use Rattle.krates_rules.specs.NamedIds.{IsReadOf}
use Rattle.krates_questions.specs.declared.root_choice.RootChoice.{RootChoice}
use Rattle.krates_questions.specs.declared.root_choice.RootChoice.TheVariants as choice
use Rattle.std.specs.Borrow.{Bor}
use Rattle.std.specs.Global.{Vec}
use Rattle.krates_cm.specs.declared.resolve.DepKindInfo.{DepKindInfo}
use Rattle.krates_ids.specs.Identity.{Identity}
use Rattle.krates_rules.specs.Questions.{Declares, edge_between, questions}
use Rattle.krates_rules.specs.Referent.{AreReferents, IsReferent}
use Rattle.krates_rules.specs.Rules.{Open}
use Rattle.krates_questions.specs.ReferentPlace.{referent_id}
use Rattle.krates_questions.specs.declared.referent.Referent.{Referent}
use Rattle.krates_rules.specs.DeclaredDependency.{IsDeclared, IsUndeclared}
use Rattle.krates_questions.specs.NodeEntry.{AreParts, IsEntry, parent_of, child_of, declared_in, entry_of}
use Rattle.krates_questions.specs.declared.node_entry.NodeEntry.{NodeEntry}
use Rattle.krates_questions.specs.declared.node_entry.NodeParts.{NodeParts}

-- ---- the roots

-- the second list has the elements of the first that have the property, in their order
pub data ArePicked {A : Type 0} (P : A → Type 0) : List A → List A → Type 0 where
  nothing : ArePicked P [] []
  picked : {x : A} {xs ys : List A} → P x → ArePicked P xs ys → ArePicked P (x ∷ xs) (x ∷ ys)
  passed : {x : A} {xs ys : List A} → (P x → ⊥) → ArePicked P xs ys → ArePicked P (x ∷ xs) ys

-- the only root, or the members that are roots, as the document has them
pub data AreInOrder (r : Resolved) (s : SettingModel) (roots : List Id) : Type 0 where
  alone : (i : Id) → ((other : Id) → IsRoot r s other → other ≡ i) → roots ≡ i ∷ [] → AreInOrder r s roots
  of_members : (members : List Id) → AllZip ReadsAs r.metadata.workspace_members members → ArePicked (IsRoot r s) members roots → AreInOrder r s roots

-- one of the paths has the components of this one
pub record HasOneOf (paths : List Text) (path : Text) : Type 0 where
  pub other : Text
  pub among : Contains paths other
  pub same : components other ≡ components path

-- roots are chosen by manifests alone
pub record AsksForManifests (r : Resolved) (s : SettingModel) : Type 0 where
  pub some : s.manifests ≡ [] → ⊥
  pub not_workspace : AsksForWorkspace r s → ⊥

-- every member is asked for, or those with one of the manifests
abbrev pub AsksFor : Resolved → SettingModel → Bool → Type 0
AsksFor r s all = MatchBool all (AsksForMembers r s) (AsksForManifests r s)

-- the choice is that of the setting; a root that is chosen is the only one, and its id is read from the document
abbrev pub IsChoice : Resolved → SettingModel → RootChoice → Type 0
IsChoice r s (choice.Root root) = IsRoot r s (id_of root.now) × ((i : Id) → IsRoot r s i → i ≡ id_of root.now) × IsReadOf r root.now
IsChoice r s (choice.Members all) = AsksFor r s all

-- the ids that are borrowed
abbrev pub lent_ids : List (Bor Identity) → List Id
lent_ids ids = map (λ root. id_of root.now) ids

-- these are the roots
abbrev pub AreRoots : Resolved → SettingModel → Vec (Bor Identity) → Type 0
AreRoots r s roots = (i : Id) → IsRoot r s i ↔ Contains (lent_ids roots.items) i

-- and they are in their order
abbrev pub AreRootsInOrder : Resolved → SettingModel → Vec (Bor Identity) → Type 0
AreRootsInOrder r s roots = AreInOrder r s (lent_ids roots.items)

-- those of these members that are roots, in their order
abbrev pub PicksRoots : Resolved → SettingModel → List Identity → Vec (Bor Identity) → Type 0
PicksRoots r s members roots = ArePicked (IsRoot r s) (map id_of members) (lent_ids roots.items)

-- ---- references

-- the least that the name means in a reference of the crate, or none where it means nothing
abbrev pub TellsReferent : Resolved → Id → Text → Option (Bor Identity) → Type 0
TellsReferent r i name answer =
    MatchOption answer ((child : Id) → IsReferent r false i name child → ⊥) (λ child. IsReferent r false i name (id_of child.now))

-- all that the name means, in the order of ids
abbrev pub TellsReferents : Resolved → Bool → Id → Text → Vec Referent → Type 0
TellsReferents r all i name referents = AreReferents r all i name (map referent_id referents.items)

-- ---- an edge between two crates

-- the edge that is asked about
abbrev pub edge_asked : Identity → Identity → DepKindInfo → Edge
edge_asked parent child info = edge_between (id_of parent) (id_of child) (dep_kind_info_view info)

-- the place of its declared dependency, or none if it has none
abbrev pub TellsDeclaredPlace : Resolved → Edge → Option ℕ → Type 0
TellsDeclaredPlace r e answer =
    MatchOption answer ((place : ℕ) (d : DependencyModel) → Declares r e place d → ⊥) (λ place. (d : DependencyModel) × Declares r e place d)

-- it may be kept, as some declared dependency
abbrev pub IsOpenAs : Resolved → SettingModel → Edge → Type 0
IsOpenAs r s e = (d : DependencyModel) × Open (questions r s) e d

-- ---- the look-ups behind one question

-- these are the parts of the crate's node
pub record ArePartsOf (r : Resolved) (i : Id) (x : NodeParts) : Type 0 where
  pub parts : AreParts r x.place.index x
  pub parent : id_of x.parent.now ≡ i

-- the parts of the crate's node, or none if it has no node
abbrev pub TellsParts : Resolved → Id → Option NodeParts → Type 0
TellsParts r i answer = MatchOption answer (NoNode r i) (ArePartsOf r i)

-- no node of the parent has the child as a dependency
abbrev pub NoDep : Resolved → Id → Id → Type 0
NoDep r p c = (n : NodeModel) (d : NodeDepModel) → HasNode r p n → HasDep n c d → ⊥

-- this is the dependency of the parent's node on the child
pub record IsEntryBetween (r : Resolved) (p c : Id) (x : NodeEntry) : Type 0 where
  pub entry : IsEntry r x
  pub parent : parent_of x ≡ p
  pub child : child_of x ≡ c

-- that dependency, or none if there is none
abbrev pub TellsEntry : Resolved → Id → Id → Option NodeEntry → Type 0
TellsEntry r p c answer = MatchOption answer (NoDep r p c) (IsEntryBetween r p c)

-- the dependency lists this kind and target, and is declared for it at this place
pub record IsDeclaredFor (x : NodeEntry) (k : DepKindInfoModel) (place : ℕ) : Type 0 where
  pub among : Contains (node_dep_view x.dep.now).dep_kinds k
  pub dependency : DependencyModel
  pub declared : IsDeclared (declared_in x) (entry_of x) k place dependency

-- that place, or none if the dependency doesn't list the kind and target, or isn't declared for them
abbrev pub TellsDeclared : NodeEntry → DepKindInfoModel → Option ℕ → Type 0
TellsDeclared x k answer =
    MatchOption answer (Contains (node_dep_view x.dep.now).dep_kinds k → IsUndeclared (declared_in x) (entry_of x) k) (IsDeclaredFor x k)
