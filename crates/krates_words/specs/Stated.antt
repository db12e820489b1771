-- A setting with the words that mean it.
use Rattle.std.specs.Prelude.{◌≡◌, List, []}
use Rattle.krates_cm.specs.Document.{Text}
use Rattle.krates_rules.specs.Setting.{SettingModel}
use Rattle.krates_words.specs.Choice.{IsSettingOf}
use Rattle.krates_words.specs.SettingWords.{words_of}
use Rattle.krates_words.specs.declared.choice.Choice.{Choice}

-- a setting, and words
pub record StatedModel : Type 0 where
  pub setting : SettingModel
  pub words : List Text

-- The setting is the one that the choice means, and the words are those that mean this choice.
pub record IsStatedBy (c : Choice) (s : StatedModel) : Type 0 where
  pub setting : IsSettingOf c [] s.setting
  pub words : s.words ≡ words_of c

-- There is a choice of which both are.
abbrev pub IsOfOneChoice : StatedModel → Type 0
IsOfOneChoice s = (c : Choice) × IsStatedBy c s
