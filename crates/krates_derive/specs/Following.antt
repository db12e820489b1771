-- What a document and a setting say about single facts, for each row of the rules.
use Rattle.std.specs.Prelude.{◌≡◌, Bool, true, false, ◌⊎◌, ℕ, Contains}
use Rattle.krates_cm.specs.Document.{Text, DependencyModel}
use Rattle.krates_rules.specs.Facts.{Id, Edge}
use Rattle.krates_rules.specs.Features.{HasReference, ListsFeature}
use Rattle.krates_rules.specs.Referent.{IsReferent}
use Rattle.krates_rules.specs.Demands.{Demands}
use Rattle.krates_rules.specs.Resolved.{Resolved}
use Rattle.krates_rules.specs.Setting.{SettingModel}
use Rattle.krates_text.specs.FeatureReference.{Reference, IsReference, strong, weak, simple}
use Rattle.krates_derive.specs.Giving.{IsTaken}
use Rattle.krates_rules.specs.Questions.{IsDeclaredAs, IsWanted, Stands}
use Rattle.krates_rules.specs.Roots.{IsRoot}
use Rattle.krates_rules.specs.Rules.{default_name}

-- ---- what the references of a feature ask for

-- the text is a reference of the crate that asks for the edges to the child
pub record AsksBy (r : Resolved) (s : SettingModel) (p : Id) (text : Text) (child : Id) : Type 0 where
  pub reference : Reference
  pub is : IsReference text reference
  pub dep : Text
  pub asks : Demands reference dep
  pub referent : IsReferent r s.all_named p dep child

-- a reference of the crate's feature asks for the edges to the child
pub record Asks (r : Resolved) (s : SettingModel) (p : Id) (f : Text) (child : Id) : Type 0 where
  pub reference : Reference
  pub dep : Text
  pub refers : HasReference r p f reference
  pub asks : Demands reference dep
  pub referent : IsReferent r s.all_named p dep child

-- a weak reference, or a strong one
abbrev pub toggling : Bool → Text → Text → Reference
toggling true dep g = weak dep g
toggling false dep g = strong dep g

-- the reference names this feature, and its dependency's name means the child
abbrev pub IsToggleOf : Resolved → SettingModel → Id → Text → Text → Id → Text → Type 0
IsToggleOf r s p dep g child name = (g ≡ name) × IsReferent r s.all_named p dep child

-- the text is a reference of the crate, weak or strong, to this feature of the child
pub record TogglesBy (r : Resolved) (s : SettingModel) (p : Id) (weakly : Bool) (text : Text) (child : Id) (g : Text) : Type 0 where
  pub dep : Text
  pub is : IsReference text (toggling weakly dep g)
  pub referent : IsReferent r s.all_named p dep child

-- a reference of the crate's feature, weak or strong, is to this feature of the child
pub record Toggles (r : Resolved) (s : SettingModel) (p : Id) (weakly : Bool) (f : Text) (child : Id) (g : Text) : Type 0 where
  pub dep : Text
  pub refers : HasReference r p f (toggling weakly dep g)
  pub referent : IsReferent r s.all_named p dep child

-- ---- rows of the rules

-- the crate is a root that stands
abbrev pub IsRooted : Resolved → SettingModel → ℕ → Id → Type 0
IsRooted r s rule p = (rule ≡ 1) × IsRoot r s p × Stands r s p

-- and lists the feature
abbrev pub IsRootedFeature : Resolved → SettingModel → ℕ → Id → Text → Type 0
IsRootedFeature r s rule p f = (rule ≡ 1) × IsRoot r s p × Stands r s p × ListsFeature r p f

-- the feature of the first crate names the second feature, whose crate is the same and lists it
abbrev pub IsNamedBy : Resolved → ℕ → Id → Text → Id → Text → Type 0
IsNamedBy r rule p f c g = (rule ≡ 3) × (p ≡ c) × HasReference r p f (simple g) × ListsFeature r p g

-- a feature of the crate asks for the edge
abbrev pub IsAskedBy : Resolved → SettingModel → ℕ → Id → Text → Edge → Type 0
IsAskedBy r s rule p f e = (rule ≡ 4) × (p ≡ e.parent) × Asks r s p f e.child

-- the edge goes to the crate, which lists the feature
abbrev pub IsChildWith : Resolved → ℕ → Edge → Id → Text → Type 0
IsChildWith r rule e c g = (rule ≡ 6) × (e.child ≡ c) × ListsFeature r e.child g

-- the edge may be kept: it is wanted as a dependency that is taken, and its child stands
pub record MayKeep (r : Resolved) (s : SettingModel) (e : Edge) (asked : Bool) : Type 0 where
  pub dependency : DependencyModel
  pub wanted : IsWanted r s e dependency
  pub taken : IsTaken asked dependency
  pub stands : Stands r s e.child

-- the dependency enables the feature by default
abbrev pub AsksDefault : DependencyModel → Text → Type 0
AsksDefault d g = (d.uses_default_features ≡ true) × (g ≡ default_name)

-- in its list of features, or by default
abbrev pub AsksFeature : DependencyModel → Text → Type 0
AsksFeature d g = Contains d.features g ⊎ AsksDefault d g

-- the edge is declared as a dependency that asks for the feature
pub record AsksForFeature (r : Resolved) (e : Edge) (g : Text) : Type 0 where
  pub dependency : DependencyModel
  pub declared : IsDeclaredAs r e dependency
  pub asks : AsksFeature dependency g

-- the edge goes from the crate, whose feature toggles a feature of the edge's child, weakly or strongly
abbrev pub TogglesOver : Resolved → SettingModel → Bool → Id → Text → Edge → Id → Id → Text → Type 0
TogglesOver r s weakly p f e a c g =
    (p ≡ e.parent) × (e.parent ≡ a) × (e.child ≡ c) × Toggles r s p weakly f c g × ListsFeature r c g
