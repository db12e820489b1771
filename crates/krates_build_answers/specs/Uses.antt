-- What the crates of a build are used for, by a build as it is asked for and the same build with all targets.
use Rattle.std.specs.Prelude.{◌↔◌, ℕ, List, All, Contains, map}
use Rattle.std.specs.List.Sorted.{IsStrictlySortedBy}
use Rattle.std.specs.Ordering.{nat_cmp}
use Rattle.krates_build_answers.specs.BuiltCrates.{IsAmong, IsForHost, IsForTargets}
use Rattle.krates_build_answers.specs.declared.built_crates.BuiltCrate.{BuiltCrate}
use Rattle.krates_build_answers.specs.declared.uses.BuildUse.{BuildUse}
use Rattle.krates_build_answers.specs.declared.uses.BuildUse.TheVariants.{Shipped, Build, Tests}
use Rattle.krates_build_answers.specs.declared.uses.UsedCrate.{UsedCrate}

-- By the build as it is asked for, a crate is shipped if it is built for some machine that the build is for. It is used in building if it is built
-- for the host alone. Otherwise only the build of all targets has it, for tests.
abbrev pub IsUse : List BuiltCrate → ℕ → BuildUse → Type 0
IsUse as_asked krate Shipped = IsForTargets krate as_asked
IsUse as_asked krate Build = ¬ IsForTargets krate as_asked × IsForHost krate as_asked
IsUse as_asked krate Tests = ¬ IsForTargets krate as_asked × ¬ IsForHost krate as_asked

-- these are exactly the crates that the build of all targets builds, ascending, each with what it is used for
pub record AreUses (as_asked with_all : List BuiltCrate) (uses : List UsedCrate) : Type 0 where
  pub ascending : IsStrictlySortedBy nat_cmp (map (λ u. u.krate) uses)
  pub exactly : (krate : ℕ) → Contains (map (λ u. u.krate) uses) krate ↔ IsAmong krate with_all
  pub each : All (λ u. IsUse as_asked u.krate u.usage) uses
