-- Where cargo's answer depends on the order of its visits: a build script with the same features on both sides is one unit for cargo, and keeps
-- the dependencies of the side that cargo meets first. That the two sides may differ in these alone was found by trial: `--features d/g` turns on
-- `d`, and no feature of its name if it has none.
use Rattle.std.specs.Prelude.{◌≡◌, ◌∷◌, [], true}
use Rattle.krates_cm.specs.Document.{Text, DependencyModel}
use Rattle.krates_cm.specs.declared.dependency.DependencyKind.TheVariants.{Build}
use Rattle.krates_rules.specs.DeclaredDependency.{declared_name}
use Rattle.krates_rules.specs.Facts.{Id, Edge}
use Rattle.krates_rules.specs.Resolved.{Resolved}
use Rattle.krates_units.specs.BuildFacts.{Linked, ActivatedFeature, ActivatedName, ScriptCompiled}
use Rattle.krates_units.specs.BuildSetting.{BuildSettingModel, IsLater}
use Rattle.krates_units.specs.Built.{IsDerivable}
use Rattle.krates_units.specs.Machines.{PassesOn}
use Rattle.krates_units.specs.declared.sides.Side.{Side}

-- an optional dependency of the crate's build script exists, and passes on the host
pub record IsOptionalOfScript (r : Resolved) (s : BuildSettingModel) (i : Id) (e : Edge) (d : DependencyModel) : Type 0 where
  pub parent : e.parent ≡ i
  pub kind : e.kind ≡ Build
  pub optional : d.optional ≡ true
  pub passes : PassesOn (s.host ∷ []) e.cfg
  pub linked : IsDerivable r s (Linked e d)

-- the crate's dependencies of this name are turned on from one side, and not from another
pub record IsTurnedOnOnce (r : Resolved) (s : BuildSettingModel) (i : Id) (name : Text) : Type 0 where
  pub on : Side
  pub off : Side
  pub turned_on : IsDerivable r s (ActivatedName i on name)
  pub turned_off : ¬ IsDerivable r s (ActivatedName i off name)

-- By a later resolver the crate's build script is compiled with the features of each side, and these are the same; but an optional dependency of
-- it is turned on from one side alone.
pub record DependsOnOrder (r : Resolved) (s : BuildSettingModel) (i : Id) : Type 0 where
  pub later : IsLater s.resolver
  pub compiled : (n : Side) → IsDerivable r s (ScriptCompiled i n)
  pub same_features : (n m : Side) (f : Text) → IsDerivable r s (ActivatedFeature i n f) → IsDerivable r s (ActivatedFeature i m f)
  pub edge : Edge
  pub dep : DependencyModel
  pub of_script : IsOptionalOfScript r s i edge dep
  pub turned_on_once : IsTurnedOnOnce r s i (declared_name dep)
