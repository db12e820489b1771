-- What cargo builds: what has a finite derivation by the rules.
use Rattle.std.specs.Prelude.{◌≡◌, ◌⊎◌, List, [], ◌∷◌}
use Rattle.krates_cm.specs.Document.{Text, DependencyModel}
use Rattle.krates_rules.specs.Facts.{Id, Edge}
use Rattle.krates_rules.specs.Resolved.{Resolved}
use Rattle.krates_units.specs.BuildFacts.{Fact, Lost, ActivatedFeature, Compiled, Needed, ScriptCompiled, CompiledUnit, Platform, host}
use Rattle.krates_units.specs.BuildRules.{Rule}
use Rattle.krates_units.specs.BuildSetting.{BuildSettingModel}
use Rattle.krates_units.specs.Sides.{HasFeaturesOf}
use Rattle.krates_units.specs.declared.sides.Side.{Side}

-- one of a list of facts
abbrev pub IsPremise : Fact → List Fact → Type 0
IsPremise f [] = ⊥
IsPremise f (g ∷ gs) = (f ≡ g) ⊎ IsPremise f gs

-- There is a finite tree with the fact at its top, in which each fact follows by one rule from the facts directly below it.
pub data IsDerivable (r : Resolved) (s : BuildSettingModel) : Fact → Type 0 where
  follows : {premises : List Fact} {f : Fact} → Rule r s premises f → ((g : Fact) → IsPremise g premises → IsDerivable r s g)
      → IsDerivable r s f

-- a target of the crate is compiled for the platform, with the features of this side
pub data IsCompiled (r : Resolved) (s : BuildSettingModel) (i : Id) : Platform → Side → Type 0 where
  as_unit : (u : CompiledUnit) → u.krate ≡ i → IsDerivable r s (Compiled u) → IsCompiled r s i u.placement.platform u.placement.side
  as_script : {n : Side} → IsDerivable r s (ScriptCompiled i n) → IsCompiled r s i host n

-- cargo builds the crate for the platform
abbrev pub IsBuilt : Resolved → BuildSettingModel → Id → Platform → Type 0
IsBuilt r s i k = (n : Side) × IsCompiled r s i k n

-- cargo builds the crate for the platform with the feature
abbrev pub IsBuiltWith : Resolved → BuildSettingModel → Id → Platform → Text → Type 0
IsBuiltWith r s i k f = (n : Side) × (m : Side) × IsCompiled r s i k n × HasFeaturesOf s n m × IsDerivable r s (ActivatedFeature i m f)

-- over the edge, what cargo builds for the first platform needs what it builds for the second
abbrev pub IsNeeded : Resolved → BuildSettingModel → Edge → Platform → Platform → Type 0
IsNeeded r s e k l = (d : DependencyModel) × (u : CompiledUnit) × IsDerivable r s (Needed e d k u) × (u.placement.platform ≡ l)

-- the document lacks nothing that the build requires
abbrev pub IsComplete : Resolved → BuildSettingModel → Type 0
IsComplete r s = (i : Id) (d : DependencyModel) → ¬ IsDerivable r s (Lost i d)

-- a build script that is compiled is built for the host
abbrev pub ScriptsAreBuilt : Type 0
ScriptsAreBuilt = (r : Resolved) (s : BuildSettingModel) (i : Id) (n : Side) → IsDerivable r s (ScriptCompiled i n) → IsBuilt r s i host
