-- Which features are chosen at once.
use Rattle.std.specs.Prelude.{List}
use Rattle.krates_cm.specs.Document.{Text, texts_view}
use Rattle.krates_cargo.specs.declared.command.Features.{Features}
use Rattle.krates_cargo.specs.declared.command.Features.TheVariants.{All, NoDefault, Selected}

-- all of them, all except the default ones, or those with these names; a name is its bytes
pub data FeaturesModel : Type 0 where
  all : FeaturesModel
  no_default : FeaturesModel
  selected : List Text → FeaturesModel

abbrev pub features_view : Features → FeaturesModel
features_view All = all
features_view NoDefault = no_default
features_view (Selected names) = selected (texts_view names)
