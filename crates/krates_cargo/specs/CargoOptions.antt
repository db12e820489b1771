-- What a tool asks of cargo, and the command that says so.
use Rattle.std.specs.Prelude.{◌≡◌, ◌↔◌, Bool, false, List, [], ◌∷◌, ◌++◌, Option, Some, None, Contains, codes, ⊤}
use Rattle.std.specs.Option.{option_map}
use Rattle.std.specs.List.Sorted.{IsStrictlySortedBy}
use Rattle.std.specs.Cmp.Lexicographic.{slice_cmp}
use Rattle.std.specs.Ordering.{nat_cmp}
use Rattle.krates_cm.specs.Document.{Text}
use Rattle.krates_cm.specs.declared.error.Error.{Error}
use Rattle.krates_cm.specs.declared.error.Error.TheVariants as errors
use Rattle.krates_text.specs.Path.{HasNoParent, IsParent}
use Rattle.krates_cargo.specs.Command.{CommandModel, plain_command, flag, listed}
use Rattle.krates_cargo.specs.declared.cargo_options.LockOptions.{LockOptions}

-- what is set
pub record CargoOptionsModel : Type 0 where
  pub cargo_path : Option Text
  pub manifest_path : Option Text
  pub current_dir : Option Text
  pub no_default_features : Bool
  pub all_features : Bool
  pub features : List Text
  pub other_options : List Text
  pub lock : LockOptions

-- nothing is set
abbrev pub plain_options : CargoOptionsModel
plain_options = record {
  cargo_path = None;
  manifest_path = None;
  current_dir = None;
  no_default_features = false;
  all_features = false;
  features = [];
  other_options = [];
  lock = record { frozen = false; locked = false; offline = false };
}

-- the names that are given, each once, in the order of their bytes
pub record IsInOrder (given names : List Text) : Type 0 where
  pub rises : IsStrictlySortedBy (slice_cmp nat_cmp) names
  pub same : (name : Text) → Contains names name ↔ Contains given name

-- the options, where these are the features
abbrev pub options_with : CargoOptionsModel → List Text → List Text
options_with o names =
    flag o.no_default_features (codes "--no-default-features")
    ++ flag o.all_features (codes "--all-features")
    ++ listed (codes "--features") (codes " ") names
    ++ flag o.lock.frozen (codes "--frozen")
    ++ flag o.lock.locked (codes "--locked")
    ++ flag o.lock.offline (codes "--offline")
    ++ o.other_options

-- an empty directory is where the command is run
abbrev pub or_here : Text → Text
or_here [] = codes "."
or_here (byte ∷ dir) = byte ∷ dir

-- a manifest is passed as `Cargo.toml`, and without one nothing is passed
abbrev pub manifest_of : Option Text → Option Text
manifest_of manifest = option_map (λ _. codes "Cargo.toml") manifest

-- the directory is the parent of the manifest, or without one the directory that is set
abbrev pub IsPlace : Option Text → Option Text → Option Text → Type 0
IsPlace None dir here = here ≡ option_map or_here dir
IsPlace (Some manifest) dir here =
    (parent : Text) × IsParent manifest parent × (here ≡ Some (or_here parent))

abbrev pub IsDirectory : CargoOptionsModel → Option Text → Type 0
IsDirectory o here = IsPlace o.manifest_path o.current_dir here

-- the options of the command, with the features in order
abbrev pub AreOptions : CargoOptionsModel → List Text → Type 0
AreOptions o options =
    (names : List Text) × IsInOrder o.features names × (options ≡ options_with o names)

-- there is a manifest, and it has no parent
abbrev pub LacksParent : Option Text → Type 0
LacksParent None = ⊥
LacksParent (Some manifest) = HasNoParent manifest

-- the command that sets what is set here, and nothing else
pub record IsCommandOf (o : CargoOptionsModel) (c : CommandModel) : Type 0 where
  pub names : List Text
  pub sorted_names : IsInOrder o.features names
  pub directory : Option Text
  pub is_directory : IsDirectory o directory
  pub is : c ≡ record plain_command {
    cargo_path = o.cargo_path;
    manifest_path = manifest_of o.manifest_path;
    current_dir = directory;
    other_options = options_with o names;
  }

-- no other refusal is possible
abbrev pub IsParentlessOrMemory : Error → Type 0
IsParentlessOrMemory errors.NoManifestParent = ⊤
IsParentlessOrMemory errors.Memory = ⊤
IsParentlessOrMemory _ = ⊥
