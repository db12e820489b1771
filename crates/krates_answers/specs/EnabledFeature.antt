-- Features that are enabled, as parts of an answer.
use Rattle.std.specs.Prelude.{◌≡◌}
use Rattle.krates_cm.specs.Document.{Text}
use Rattle.krates_answers.specs.SamePackage.{MeanSame}
use Rattle.krates_answers.specs.declared.enabled_feature.EnabledFeature.{EnabledFeature}

-- two features have one name, on the same side, and their packages mean the same, each in a checkout of a workspace with this root
pub record MeanSameFeature (root : Text) (feature : EnabledFeature) (other_root : Text) (other : EnabledFeature) : Type 0 where
  pub name : feature.name.now ≡ other.name.now
  pub side : feature.is_for_host ≡ other.is_for_host
  pub krate : MeanSame root feature.krate.now other_root other.krate.now
