-- Settings that differ only in what a name in a feature reference means, and what is selected under them.
use Rattle.std.specs.Prelude.{Bool, true, false}
use Rattle.krates_rules.specs.Derivation.{Derivable}
use Rattle.krates_rules.specs.Facts.{Fact}
use Rattle.krates_rules.specs.Questions.{questions}
use Rattle.krates_rules.specs.Resolved.{Resolved}
use Rattle.krates_rules.specs.Setting.{SettingModel}

-- the setting, with a name meaning all that match it, or only the least
abbrev pub naming : SettingModel → Bool → SettingModel
naming s all = record s { all_named = all }

-- each fact that is derivable where a name means the least is derivable where it means all, lost facts too
abbrev pub IsNamedPart : Type 0
IsNamedPart = (r : Resolved) (s : SettingModel) (f : Fact) → Derivable (questions r (naming s false)) f → Derivable (questions r (naming s true)) f
