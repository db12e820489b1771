-- What is asked of a run: which words mean what, and the request that they make.
use Rattle.std.specs.Prelude.{◌≡◌, List, [], ◌∷◌, Bool, true, false, Option, Some, None, bytes_eq, codes, if◌then◌else◌, map, option_map, string_bytes}
use Rattle.std.specs.List.{list_any}
use Rattle.krates_cm.specs.Document.{Text}
use Rattle.krates_ids.specs.Identity.{Identity, Reads}
use Rattle.krates_ids.specs.PackageSpecification.{Specification, IsSpec, spec_view}
use Rattle.krates_text.specs.Passing.{Asked}
use Rattle.krates_text.specs.TargetTable.{target_named}
use Rattle.krates_rules.specs.Setting.{SettingModel}
use Rattle.krates_rules.specs.declared.kind.DepKind.{DepKind}
use Rattle.krates_rules.specs.declared.kind.DepKind.TheVariants as kinds
use Rattle.krates_rules.specs.declared.kind.KindSet.{KindSet}
use Rattle.krates_cli.specs.Request.{Request}
use Rattle.krates_cli.specs.declared.options.Options.{Options}

-- ---- what is asked

pub record OptionsModel : Type 0 where
  -- whether every member is a root
  pub workspace : Bool
  -- the kinds of the dependencies that are ignored
  pub ignored : List DepKind
  -- the triples of the targets
  pub targets : List Text
  -- the packages that are left out
  pub exclusions : List Specification
  -- the program whose output is the document, where one is set
  pub cargo : Option Text
  -- the crate that is to be explained, where one is
  pub explaining : Option Identity
  -- whether a name in a feature reference means all dependencies that match it
  pub all_named : Bool

-- nothing is asked
abbrev pub plain_options : OptionsModel
plain_options = record { workspace = false; ignored = []; targets = []; exclusions = []; cargo = None; explaining = None; all_named = false }

-- options, seen by the bytes of their texts
abbrev pub options_view : Options → OptionsModel
options_view o = record {
  workspace = o.workspace;
  ignored = o.ignored.items;
  targets = map string_bytes o.targets.items;
  exclusions = map spec_view o.exclusions.items;
  cargo = option_map string_bytes o.cargo;
  explaining = o.why;
  all_named = o.all_named;
}

-- ---- words

-- what one option means
pub data Wish : Type 0 where
  every_member : Wish
  every_namesake : Wish
  without_kind : DepKind → Wish
  at_target : Text → Wish
  without_package : Specification → Wish
  by_program : Text → Wish
  explaining : Identity → Wish

-- of two values, the later
abbrev pub later : {A : Type 0} → Option A → Option A → Option A
later first None = first
later first (Some last) = Some last

-- what is asked where this wish comes first
abbrev pub with_wish : Wish → OptionsModel → OptionsModel
with_wish every_member o = record o { workspace = true }
with_wish every_namesake o = record o { all_named = true }
with_wish (without_kind kind) o = record o { ignored = kind ∷ o.ignored }
with_wish (at_target triple) o = record o { targets = triple ∷ o.targets }
with_wish (without_package spec) o = record o { exclusions = spec ∷ o.exclusions }
with_wish (by_program cargo) o = record o { cargo = later (Some cargo) o.cargo }
with_wish (explaining krate) o = record o { explaining = later (Some krate) o.explaining }

-- the kind that a word means
abbrev pub kind_named : Text → Option DepKind
kind_named word =
    if bytes_eq word (codes "normal") then Some kinds.Normal
    else if bytes_eq word (codes "build") then Some kinds.Build
    else if bytes_eq word (codes "dev") then Some kinds.Dev
    else None

-- an option and its value mean this
pub data AsksWith : Text → Text → Wish → Type 0 where
  ignore_kind : {value : Text} {kind : DepKind} → kind_named value ≡ Some kind → AsksWith (codes "--ignore-kind") value (without_kind kind)
  target : {value : Text} → AsksWith (codes "--target") value (at_target value)
  exclude : {value : Text} {spec : Specification} → IsSpec value spec.name spec.version spec.url → AsksWith (codes "--exclude") value (without_package spec)
  cargo : {value : Text} → AsksWith (codes "--cargo") value (by_program value)
  why : {value : Text} {krate : Identity} → Reads value krate → AsksWith (codes "--why") value (explaining krate)

-- The words begin with an option that means this, and these words follow. A value is the next word, whatever it is.
pub data AsksFirst : List Text → Wish → List Text → Type 0 where
  workspace : {rest : List Text} → AsksFirst (codes "--workspace" ∷ rest) every_member rest
  all_named : {rest : List Text} → AsksFirst (codes "--all-named" ∷ rest) every_namesake rest
  valued : {option value : Text} {wish : Wish} {rest : List Text} → AsksWith option value wish → AsksFirst (option ∷ value ∷ rest) wish rest

-- the words are options that mean this
pub data IsCommandLine : List Text → OptionsModel → Type 0 where
  no_words : IsCommandLine [] plain_options
  one_more : {words rest : List Text} {wish : Wish} {o : OptionsModel} → AsksFirst words wish rest → IsCommandLine rest o → IsCommandLine words (with_wish wish o)

-- the words mean nothing that is known: one isn't an option, or an option has no value or a wrong one
abbrev pub IsUnknown : List Text → Type 0
IsUnknown words = (o : OptionsModel) → IsCommandLine words o → ⊥

-- ---- the request

-- the target with this triple, without features
abbrev pub asked_at : Text → Asked
asked_at triple = record { target = target_named triple; features = [] }

-- whether two kinds are one
abbrev pub is_same : DepKind → DepKind → Bool
is_same kinds.Normal kinds.Normal = true
is_same kinds.Build kinds.Build = true
is_same kinds.Dev kinds.Dev = true
is_same _ _ = false

-- the set of these kinds
abbrev pub set_of : List DepKind → KindSet
set_of asked = record {
  normal = list_any (is_same kinds.Normal) asked;
  build = list_any (is_same kinds.Build) asked;
  dev = list_any (is_same kinds.Dev) asked;
}

-- the setting that is meant; no manifest is set
abbrev pub setting_of : OptionsModel → SettingModel
setting_of o = record {
  targets = map asked_at o.targets;
  manifests = [];
  exclusions = o.exclusions;
  ignored = record { of_members = set_of o.ignored; of_others = set_of o.ignored };
  workspace = o.workspace;
  all_named = o.all_named;
}

-- the setting, with the crate that is to be explained
abbrev pub request_of : OptionsModel → Request
request_of o = record { setting = setting_of o; explaining = o.explaining }

-- the request that these options mean
abbrev pub meant_request : Options → Request
meant_request options = request_of (options_view options)

-- the program that these options set
abbrev pub asked_program : Options → Option Text
asked_program options = (options_view options).cargo
