-- What a build is asked for by words (Cargo Book, "cargo build").
use Rattle.std.specs.Prelude.{List, [], ◌∷◌, if◌then◌else◌, map, string_bytes}
use Rattle.krates_cm.specs.Document.{Text}
use Rattle.krates_ids.specs.PackageSpecification.{Specification, spec_view}
use Rattle.krates_units.specs.BuildSetting.{BuildSettingModel, SelectionModel, default_members, every_member, packages}
use Rattle.krates_units.specs.Machines.{MachineModel}
use Rattle.krates_units.specs.declared.setting.Resolver.{Resolver}
use Rattle.krates_words.specs.FeatureNames.{names_of}
use Rattle.krates_words.specs.declared.build_words.BuildWords.{BuildWords}

-- the packages that are named, and where none is, the default members
abbrev pub named : List Specification → SelectionModel
named [] = default_members
named (spec ∷ specs) = packages (spec ∷ specs)

-- which packages are asked for: every member where that is said, whatever is named besides
abbrev pub selection_of : BuildWords → SelectionModel
selection_of words = if words.workspace then every_member else named (map spec_view words.packages.items)

-- the names of the features that are asked for
abbrev pub features_of : BuildWords → List Text
features_of words = names_of (map string_bytes words.features.items)

-- what a build is asked for by these words, with this resolver, on this host and for these machines
abbrev pub setting_of : BuildWords → Resolver → MachineModel → List MachineModel → BuildSettingModel
setting_of words resolver host targets = record {
  resolver = resolver;
  host = host;
  targets = targets;
  selection = selection_of words;
  features = features_of words;
  all_features = words.all_features;
  no_default_features = words.no_default_features;
  kinds = words.kinds;
}
