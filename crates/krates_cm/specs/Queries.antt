-- What can be asked of a document: its root, the packages of its workspace, the files that a package names.
use Rattle.std.specs.Prelude.{◌≡◌, ◌⊎◌, ◌==◌, ℕ, Bool, List, [], ◌∷◌, ◌++◌, Option, None, Some, option_and_then, MatchOption, codes, bytes_eq, filter, if◌then◌else◌, ⊤}
use Rattle.std.specs.List.{AllWithin, All, before_first, find, list_any, slice_get}
use Rattle.std.specs.Path.{path_join}
use Rattle.krates_text.specs.Path.{HasNoParent, IsParent, components}
use Rattle.krates_cm.specs.Document.{Text, text_view, id_view}
use Rattle.krates_cm.specs.declared.metadata.Metadata.{Metadata}
use Rattle.krates_cm.specs.declared.package.Package.{Package}
use Rattle.krates_cm.specs.declared.package.SourceKind.{SourceKind}
use Rattle.krates_cm.specs.declared.package.SourceKind.TheVariants.{Registry, SparseRegistry, Git, Path, Other}

-- the source of the packages of crates.io
abbrev pub crates_io : Text
crates_io = codes "registry+https://github.com/rust-lang/crates.io-index"

-- whether a byte is the plus that ends the kind of a source
abbrev pub is_plus : ℕ → Bool
is_plus b = b == 43

-- the kind that has this name
abbrev pub source_kind_named : Text → SourceKind
source_kind_named name =
    if bytes_eq name (codes "registry") then Registry
    else if bytes_eq name (codes "sparse") then SparseRegistry
    else if bytes_eq name (codes "git") then Git
    else if bytes_eq name (codes "path") then Path
    else Other

-- the kind of a source is named by the part before its first plus
abbrev pub source_kind : Text → SourceKind
source_kind text = if list_any is_plus text then source_kind_named (before_first is_plus text) else Other

-- a package is local that has no source, or one of a path
abbrev pub IsLocal : Option Text → Type 0
IsLocal source = MatchOption source ⊤ (λ text. source_kind text ≡ Path)

-- the first package of this id
abbrev pub package_of : List Package → Text → Option Package
package_of packages id = find (λ p. bytes_eq (id_view p.id) id) packages

-- the packages of these ids, in the order of the document
abbrev pub packages_among : List Package → List Text → List Package
packages_among packages ids = filter (λ p. list_any (λ id. bytes_eq id (id_view p.id)) ids) packages

-- the first with a property, or none if nothing has it
abbrev pub IsFirst : {X : Type 0} → (X → Type 0) → List X → Option X → Type 0
IsFirst P xs first = MatchOption first (All (λ x. P x → ⊥) xs)
    (λ x. P x × (place : ℕ) × (slice_get xs place ≡ Some x) × AllWithin (λ y. P y → ⊥) xs 0 place)

-- by its components, the path is that of the manifest in a directory
abbrev pub IsManifestIn : Text → Text → Type 0
IsManifestIn directory path = components path ≡ components directory ++ codes "Cargo.toml" ∷ []

-- With a resolved graph, the first package whose id is that of the graph's root; without one, the first
-- whose manifest is that of the workspace's root.
abbrev pub IsRootPackage : Metadata → Option Package → Type 0
IsRootPackage m root = MatchOption m.resolve
    (IsFirst (λ p. IsManifestIn (text_view m.workspace_root) (text_view p.manifest_path)) m.packages.items root)
    (λ graph. root ≡ option_and_then (λ id. package_of m.packages.items (id_view id)) graph.root)

-- the directory of a manifest: its path's parent, and that path itself where it has none
abbrev pub IsDirectoryOf : Text → Text → Type 0
IsDirectoryOf manifest directory = IsParent manifest directory ⊎ (HasNoParent manifest × (directory ≡ manifest))

-- where a file is that a manifest names, if it names one: joined to the manifest's directory
abbrev pub IsBeside : Text → Option Text → Option Text → Type 0
IsBeside manifest file path = MatchOption file (path ≡ None)
    (λ name. (directory : Text) × IsDirectoryOf manifest directory × (path ≡ Some (path_join directory name)))
