-- The words that mean what a build is asked for. They are made of nothing but the setting, so each setting has one list of words.
use Rattle.std.specs.Prelude.{List, [], ◌∷◌, ◌++◌, codes, map}
use Rattle.krates_cm.specs.Document.{Text}
use Rattle.krates_ids.specs.PackageSpecification.{Specification}
use Rattle.krates_ids.specs.SpecificationText.{spec_text}
use Rattle.krates_units.specs.BuildSetting.{BuildSettingModel, SelectionModel, default_members, every_member, packages}
use Rattle.krates_units.specs.Machines.{MachineModel}
use Rattle.krates_units.specs.declared.setting.Resolver.{Resolver}
use Rattle.krates_units.specs.declared.setting.Resolver.TheVariants.{V1, V2, V3}
use Rattle.krates_units.specs.declared.setting.TargetFlags.{TargetFlags}
use Rattle.krates_words.specs.SettingWords.{flag_words}

-- how the version of a resolver is written
abbrev pub resolver_name : Resolver → Text
resolver_name V1 = codes "1"
resolver_name V2 = codes "2"
resolver_name V3 = codes "3"

-- the rules, the resolver and the machine that builds are always said
abbrev pub rules_words : BuildSettingModel → List Text
rules_words s =
    codes "--by=build"
    ∷ (codes "--resolver=" ++ resolver_name s.resolver)
    ∷ (codes "--host=" ++ s.host.triple)
    ∷ []

-- a package that is named
abbrev pub named_word : Specification → Text
named_word spec = codes "--package=" ++ spec_text spec

-- the packages that are asked for
abbrev pub selection_words : SelectionModel → List Text
selection_words default_members = []
selection_words every_member = codes "--workspace" ∷ []
selection_words (packages specs) = map named_word specs

-- the kinds of targets
abbrev pub kinds_words : TargetFlags → List Text
kinds_words k =
    flag_words (codes "--lib") k.lib
    ++ (flag_words (codes "--bins") k.bins
    ++ (flag_words (codes "--examples") k.examples
    ++ (flag_words (codes "--tests") k.tests
    ++ (flag_words (codes "--benches") k.benches
    ++ flag_words (codes "--all-targets") k.all))))

abbrev pub feature_word : Text → Text
feature_word name = codes "--features=" ++ name

-- a machine is given by its triple
abbrev pub target_word : MachineModel → Text
target_word m = codes "--target=" ++ m.triple

-- all of them, in this order
abbrev pub words_of_build : BuildSettingModel → List Text
words_of_build s =
    rules_words s
    ++ (selection_words s.selection
    ++ (kinds_words s.kinds
    ++ (map feature_word s.features
    ++ (flag_words (codes "--all-features") s.all_features
    ++ (flag_words (codes "--no-default-features") s.no_default_features
    ++ map target_word s.targets)))))
