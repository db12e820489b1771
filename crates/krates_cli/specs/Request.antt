-- What is asked of a document.
use Rattle.std.specs.Prelude.{Option}
use Rattle.krates_ids.specs.Identity.{Identity}
use Rattle.krates_rules.specs.Setting.{SettingModel}

-- the setting of the build, and the crate to be explained instead of a list of the packages, where there is one
pub record Request : Type 0 where
  pub setting : SettingModel
  pub explaining : Option Identity
