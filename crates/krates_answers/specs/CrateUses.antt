-- What a crate is used for, by three builds.
use Rattle.std.specs.Prelude.{ℕ}
use Rattle.krates_queries.specs.Kept.{KeptCrates, IsNotKept, ids_of}
use Rattle.krates_rules.specs.Facts.{Id}
use Rattle.krates_rules.specs.Resolved.{StandsAt}
use Rattle.krates_answers.specs.declared.crate_uses.Use.{Use}
use Rattle.krates_answers.specs.declared.crate_uses.Use.TheVariants.{Shipped, Build, Dev}

-- a kept crate has the id
pub record IsKept {N E : Type 0} (k : KeptCrates N E) (id : Id) : Type 0 where
  pub number : ℕ
  pub stands : StandsAt (ids_of k) id number

-- A crate is shipped if the build without build and dev dependencies keeps it. It is used in building if that doesn't, but the build
-- without dev dependencies does. Otherwise it is used only in development.
abbrev pub IsUse : {N E : Type 0} → KeptCrates N E → KeptCrates N E → Id → Use → Type 0
IsUse shipped without_dev id Shipped = IsKept shipped id
IsUse shipped without_dev id Build = IsNotKept shipped id × IsKept without_dev id
IsUse shipped without_dev id Dev = IsNotKept shipped id × IsNotKept without_dev id
