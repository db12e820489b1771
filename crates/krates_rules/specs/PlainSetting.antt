-- The setting in which nothing is set.
use Rattle.std.specs.Prelude.{[], false}
use Rattle.krates_rules.specs.Setting.{SettingModel}
use Rattle.krates_rules.specs.declared.kind.IgnoredKinds.{IgnoredKinds}
use Rattle.krates_rules.specs.declared.kind.KindSet.{KindSet}

abbrev pub no_kinds : KindSet
no_kinds = record { normal = false; build = false; dev = false }

abbrev pub nothing_ignored : IgnoredKinds
nothing_ignored = record { of_members = no_kinds; of_others = no_kinds }

abbrev pub plain_setting : SettingModel
plain_setting = record { targets = []; manifests = []; exclusions = []; ignored = nothing_ignored; workspace = false; all_named = false }
