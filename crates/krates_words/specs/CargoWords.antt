-- The options that cargo is given.
use Rattle.std.specs.Prelude.{◌≡◌, List, [], None, false, option_map, true}
use Rattle.krates_cargo.specs.CargoOptions.{CargoOptionsModel, IsInOrder, options_with}
use Rattle.krates_cargo.specs.Command.{CommandModel, plain_command}
use Rattle.krates_cm.specs.Document.{Text, text_view, texts_view}
use Rattle.krates_words.specs.declared.cargo.CargoWords.{CargoWords}

-- what these words ask of cargo beside the manifest, and nothing else
abbrev pub asked_of_cargo : CargoWords → CargoOptionsModel
asked_of_cargo words = record {
  cargo_path = None;
  manifest_path = None;
  current_dir = None;
  no_default_features = words.no_default_features;
  all_features = words.all_features;
  features = texts_view words.features;
  other_options = [];
  lock = record { frozen = words.frozen; locked = words.locked; offline = words.offline };
}

-- The options that cargo is given where these are those of a build: all features, and those that are named. The rest stays, but that
-- the default features aren't left out.
abbrev pub words_for_build : CargoWords → CargoWords
words_for_build words = record words { all_features = true; no_default_features = false }

-- The command has the path of the manifest as it is given, these options, and nothing else: no program and no directory.
pub record IsTold (words : CargoWords) (c : CommandModel) : Type 0 where
  pub names : List Text
  pub sorted_names : IsInOrder (texts_view words.features) names
  pub is : c ≡ record plain_command {
    manifest_path = option_map text_view words.manifest_path;
    other_options = options_with (asked_of_cargo words) names;
  }
