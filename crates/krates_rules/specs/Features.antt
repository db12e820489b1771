-- What a document says about the features of its crates.
use Rattle.std.specs.Prelude.{◌≡◌, List, Some, Contains}
use Rattle.krates_cm.specs.Document.{Text, PackageModel, NodeModel}
use Rattle.krates_ids.specs.Correction.{named}
use Rattle.krates_text.specs.FeatureReference.{Reference, IsReference}
use Rattle.krates_rules.specs.Facts.{Id}
use Rattle.krates_rules.specs.Resolved.{Resolved, HasPackage, HasNode}

-- the crate's node lists the feature
pub record ListsFeature (r : Resolved) (i : Id) (f : Text) : Type 0 where
  pub node : NodeModel
  pub has_node : HasNode r i node
  pub among : Contains node.features f

-- the crate has no node that lists the feature
abbrev pub LacksFeature : Resolved → Id → Text → Type 0
LacksFeature r i f = ListsFeature r i f → ⊥

-- the crate's package has the feature, and among its values is the reference
pub record HasReference (r : Resolved) (i : Id) (f : Text) (reference : Reference) : Type 0 where
  pub pkg : PackageModel
  pub has_package : HasPackage r i pkg
  pub values : List Text
  pub feature : named pkg.features f ≡ Some values
  pub text : Text
  pub among : Contains values text
  pub is : IsReference text reference
