-- Which crates are the roots (Cargo Book, "cargo metadata", `workspace_members` and `resolve`).
use Rattle.std.specs.Prelude.{◌≡◌, List, [], ◌∷◌, true, false, Some, None, Contains}
use Rattle.krates_cm.specs.Document.{Text, PackageModel}
use Rattle.krates_text.specs.Path.{components, IsParent}
use Rattle.krates_rules.specs.Facts.{Id}
use Rattle.krates_rules.specs.Resolved.{Resolved, ReadsAs, IsMember, HasPackage}
use Rattle.krates_rules.specs.Setting.{SettingModel}

-- there is one manifest, and its directory is the workspace's
pub record IsWorkspaceManifest (manifests : List Text) (workspace_root : Text) : Type 0 where
  pub manifest : Text
  pub alone : manifests ≡ manifest ∷ []
  pub parent : Text
  pub is_parent : IsParent manifest parent
  pub is_root : components parent ≡ components workspace_root

-- one manifest is set, and it is that of the workspace itself
abbrev pub AsksForWorkspace : Resolved → SettingModel → Type 0
AsksForWorkspace r s = IsWorkspaceManifest s.manifests r.metadata.workspace_root

-- every member is a root: by the setting, or because the graph has no root, or by the manifest of the workspace
pub data AsksForMembers (r : Resolved) (s : SettingModel) : Type 0 where
  by_setting : s.manifests ≡ [] → s.workspace ≡ true → AsksForMembers r s
  without_root : s.manifests ≡ [] → r.graph.root ≡ None → AsksForMembers r s
  by_manifest : AsksForWorkspace r s → AsksForMembers r s

-- the crate's package has one of the manifests, compared by components
pub record HasManifest (r : Resolved) (s : SettingModel) (i : Id) : Type 0 where
  pub pkg : PackageModel
  pub has_package : HasPackage r i pkg
  pub manifest : Text
  pub among : Contains s.manifests manifest
  pub same : components manifest ≡ components pkg.manifest_path

-- The graph's root if nothing is set; every member if all are roots; otherwise the members with one of the manifests.
pub data IsRoot (r : Resolved) (s : SettingModel) (i : Id) : Type 0 where
  of_graph : {t : Text} → s.manifests ≡ [] → s.workspace ≡ false → r.graph.root ≡ Some t → ReadsAs t i → IsRoot r s i
  of_workspace : AsksForMembers r s → IsMember r i → IsRoot r s i
  of_manifests : (AsksForWorkspace r s → ⊥) → IsMember r i → HasManifest r s i → IsRoot r s i
