-- The features of one crate on one side.
use Rattle.std.specs.Prelude.{ℕ, ◌==◌, ◌&&◌, Option, Some, None, if◌then◌else◌}
use Rattle.krates_cm.specs.Document.{Text}
use Rattle.krates_units.specs.contracts.sides.SidePartialEq.TheImpl.{ghosts as side_equality}
use Rattle.krates_units.specs.declared.sides.Side.{Side}
use Rattle.krates_built.specs.BuildLists.{FeatureModel}

-- the name of the feature, if it is one of the crate on the side
abbrev pub name_at : ℕ → Side → FeatureModel → Option Text
name_at krate side f = if (f.krate == krate) && side_equality.eq f.side side then Some f.name else None
