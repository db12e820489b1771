-- A setting after the setters that append.
use Rattle.std.specs.Prelude.{List, ◌++◌}
use Rattle.krates_ids.specs.PackageSpecification.{Specification}
use Rattle.krates_rules.specs.Setting.{SettingModel}
use Rattle.krates_text.specs.Passing.{Asked}

-- the packages that these fit are left out too
abbrev pub with_exclusions : SettingModel → List Specification → SettingModel
with_exclusions s specs = record s { exclusions = s.exclusions ++ specs }

-- dependencies are kept for these targets too
abbrev pub with_targets : SettingModel → List Asked → SettingModel
with_targets s targets = record s { targets = s.targets ++ targets }
