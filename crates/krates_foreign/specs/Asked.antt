-- The setting that words give, one word per line, and the words that a certificate under this setting has.
use Rattle.std.specs.Prelude.{◌≡◌, ◌++◌, [], IsUtf8, List, None, codes, map, ⊤}
use Rattle.std.specs.Str.Lines.{lines}
use Rattle.krates_cm.specs.Document.{Text}
use Rattle.krates_cli.specs.Options.{IsCommandLine, OptionsModel, setting_of}
use Rattle.krates_ids.specs.PackageSpecification.{Specification}
use Rattle.krates_ids.specs.SpecificationText.{spec_text}
use Rattle.krates_rules.specs.Setting.{SettingModel}
use Rattle.krates_text.specs.TargetTable.{printed, target_named}
use Rattle.krates_words.specs.Choice.{IsSettingOf}
use Rattle.krates_words.specs.SettingWords.{flag_words, kind_word, words_of}
use Rattle.krates_words.specs.Stated.{StatedModel}
use Rattle.krates_words.specs.declared.choice.Choice.{Choice}
use Rattle.krates_foreign.specs.declared.refusal.CallRefusal.{CallRefusal}
use Rattle.krates_foreign.specs.declared.refusal.CallRefusal.TheVariants as refusals

-- the options set no program, and no crate to be explained
pub record AskAlone (o : OptionsModel) : Type 0 where
  pub no_program : o.cargo ≡ None
  pub no_crate : o.explaining ≡ None

-- The bytes are a text whose lines are options, and these give only a setting.
pub record AsksFor (words : Text) (o : OptionsModel) : Type 0 where
  pub is_text : IsUtf8 words
  pub options : IsCommandLine (lines words) o
  pub alone : AskAlone o

-- The words give a setting, of which this is true.
abbrev pub Under : Text → (SettingModel → Type 0) → Type 0
Under words P = (o : OptionsModel) × AsksFor words o × P (setting_of o)

-- They give one.
abbrev pub AskForOne : Text → Type 0
AskForOne words = (o : OptionsModel) × AsksFor words o

-- They give none.
abbrev pub AskForNone : Text → Type 0
AskForNone words = (o : OptionsModel) → AsksFor words o → ⊥

-- why no setting is read from the words
abbrev pub IsUnasked : Text → CallRefusal → Type 0
IsUnasked words refusals.Words = AskForNone words
IsUnasked words refusals.Memory = ⊤
IsUnasked words _ = ⊥

-- ---- of options that were read

abbrev pub IsAloneRefused : OptionsModel → CallRefusal → Type 0
IsAloneRefused o refusals.Words = AskAlone o → ⊥
IsAloneRefused o _ = ⊥

-- ---- the words of a certificate

abbrev pub exclusion_word : Specification → Text
exclusion_word spec = codes "--exclude=" ++ spec_text spec

abbrev pub target_word : Text → Text
target_word triple = codes "--target=" ++ printed (target_named triple)

-- the words that mean this setting, as `cargo krates certify` writes them
abbrev pub setting_words : OptionsModel → List Text
setting_words o =
    flag_words (codes "--workspace") o.workspace
    ++ (flag_words (codes "--all-named") o.all_named
    ++ (map kind_word o.ignored
    ++ (map exclusion_word o.exclusions
    ++ map target_word o.targets)))

-- the setting of the options, with these words
abbrev pub stated_of : OptionsModel → StatedModel
stated_of o = record { setting = setting_of o; words = setting_words o }

-- The choice means that setting and no other, and has those words.
pub record IsChoiceOf (o : OptionsModel) (c : Choice) : Type 0 where
  pub setting : (s : SettingModel) → IsSettingOf c [] s → s ≡ setting_of o
  pub words : words_of c ≡ setting_words o
