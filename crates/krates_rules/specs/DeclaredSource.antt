-- When the source that a package declares for a dependency is the one that the id of the dependency has (Cargo Book,
-- "Package ID Specifications").
use Rattle.std.specs.Prelude.{◌≡◌, ◌⊎◌, ◌<◌, ◌==◌, ℕ, List, ◌∷◌, ◌++◌, codes, MatchOption, IsSomeAnd}
use Rattle.std.specs.List.{slice_split}
use Rattle.std.specs.Path.{IsAbsolute, IsRelative}
use Rattle.krates_cm.specs.Document.{Text, DependencyModel}
use Rattle.krates_text.specs.Cuts.{Lacks, Has, LastCut}
use Rattle.krates_ids.specs.Identity.{git}
use Rattle.krates_ids.specs.Separators.{blank, hash_sign}
use Rattle.krates_text.specs.Path.{components}
use Rattle.krates_text.specs.Text.{BeginsWith}

-- ---- a declared path

-- how the source of a package in a directory begins
abbrev pub path_start : Text
path_start = codes "path+file://"

-- '\', which separates the names of a path on Windows
abbrev pub backslash : ℕ
backslash = 92

-- the parts before, between and after the backslashes, empty ones too
abbrev pub between_backslashes : Text → List Text
between_backslashes path = slice_split (λ byte. byte == backslash) path

-- The names between backslashes are the components of the directory, less its first character, which is ASCII: the
-- slash before the drive, in `/D:/a` for `D:\a`.
pub record HasNamesOf (path directory : Text) : Type 0 where
  pub first : ℕ
  pub is_ascii : first < 128
  pub rest : Text
  pub is : directory ≡ first ∷ rest
  pub same : between_backslashes path ≡ components rest

-- a path that begins with `/` has the components of the directory; any other has its names
abbrev pub LeadsTo : Text → Text → Type 0
LeadsTo path directory = (IsAbsolute path × (components path ≡ components directory)) ⊎ (IsRelative path × HasNamesOf path directory)

-- the source is that of a directory, and the path leads there
pub record IsPathOf (path source : Text) : Type 0 where
  pub directory : Text
  pub is : source ≡ path_start ++ directory
  pub leads : LeadsTo path directory

-- ---- a declared source

-- the part before the last '#', or the whole text where it has none
abbrev pub IsWithoutCommit : Text → Text → Type 0
IsWithoutCommit text front = ((commit : Text) × LastCut hash_sign text front commit) ⊎ (Lacks hash_sign text × (front ≡ text))

-- the declared source is git's, and the id is opaque, as a text with a space is: then the id's source has no commit
abbrev pub LosesCommit : Text → Text → Type 0
LosesCommit id declared = BeginsWith git declared × Has blank id

-- the source of this id is the declared one: without its commit where that is lost, and else as a text; so both are git's, or neither is
abbrev pub IsSameSource : Text → Text → Text → Type 0
IsSameSource id declared source = (LosesCommit id declared × IsWithoutCommit declared source) ⊎ (¬ LosesCommit id declared × (source ≡ declared))

-- the declared dependency has the source of the id with this text: by its source where one is declared, and else by its path
abbrev pub HasSource : Text → Text → DependencyModel → Type 0
HasSource id source d = MatchOption d.source (IsSomeAnd d.path (λ path. IsPathOf path source)) (λ declared. IsSameSource id declared source)
