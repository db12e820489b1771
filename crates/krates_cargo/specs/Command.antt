-- A `cargo metadata` command, and the words that cargo is run with.
use Rattle.std.specs.Prelude.{◌≡◌, Bool, false, List, [], ◌∷◌, ◌++◌, Option, Some, None, String, codes, map, if◌then◌else◌}
use Rattle.std.specs.List.{join_by}
use Rattle.std.specs.BTreeMap.{BTreeMap}
use Rattle.std.specs.Global.{Vec}
use Rattle.std.specs.declared.alloc.Global.{Global}
use Rattle.krates_cm.specs.Document.{Text, text_view, texts_view}

-- What is set; a text is its bytes. The variables of the environment are in the order of their names.
pub record CommandModel : Type 0 where
  pub cargo_path : Option Text
  pub manifest_path : Option Text
  pub current_dir : Option Text
  pub no_deps : Bool
  pub features : List Text
  pub all_features : Bool
  pub no_default_features : Bool
  pub other_options : List Text
  pub variables : List (Text × Text)
  pub verbose : Bool

-- nothing is set
abbrev pub plain_command : CommandModel
plain_command = record {
  cargo_path = None;
  manifest_path = None;
  current_dir = None;
  no_deps = false;
  features = [];
  all_features = false;
  no_default_features = false;
  other_options = [];
  variables = [];
  verbose = false;
}

abbrev pub variables_view : BTreeMap (String Global) (String Global) → List (Text × Text)
variables_view m = map (λ e. (text_view e.0, text_view e.1)) m.entries

-- ---- parts of a list of words

-- the words have these added
abbrev pub Adds : Vec (String Global) → Vec (String Global) → List Text → Type 0
Adds old new more = texts_view new ≡ texts_view old ++ more

-- the word where the flag is set
abbrev pub flag : Bool → Text → List Text
flag is_set word = if is_set then word ∷ [] else []

-- the option and its value, where there is one
abbrev pub valued : Text → Option Text → List Text
valued option None = []
valued option (Some value) = option ∷ value ∷ []

-- the names in a row, with the separator between each two
abbrev pub joined : Text → List Text → Text
joined separator names = join_by (λ name. name) separator names

-- the option and the joined names, where there is a name
abbrev pub listed : Text → Text → List Text → List Text
listed option separator [] = []
listed option separator (name ∷ names) = option ∷ joined separator (name ∷ names) ∷ []

-- ---- the words after the program

abbrev pub words : CommandModel → List Text
words c =
    codes "metadata" ∷ codes "--format-version" ∷ codes "1" ∷ []
    ++ flag c.no_deps (codes "--no-deps")
    ++ listed (codes "--features") (codes ",") c.features
    ++ flag c.all_features (codes "--all-features")
    ++ flag c.no_default_features (codes "--no-default-features")
    ++ valued (codes "--manifest-path") c.manifest_path
    ++ c.other_options
