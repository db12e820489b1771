-- Builds that are asked for less, of which cargo builds a part.
use Rattle.std.specs.Prelude.{◌≡◌, ◌||◌, Bool, true, not, Contains}
use Rattle.krates_cm.specs.Document.{Text}
use Rattle.krates_text.specs.FeatureReference.{Reference}
use Rattle.krates_rules.specs.Facts.{Id}
use Rattle.krates_rules.specs.Resolved.{Resolved}
use Rattle.krates_units.specs.BuildFacts.{Fact, Platform}
use Rattle.krates_units.specs.BuildSetting.{BuildSettingModel, machines, asks_kinds}
use Rattle.krates_units.specs.Built.{IsDerivable, IsBuilt, IsBuiltWith, IsComplete}
use Rattle.krates_units.specs.Machines.{MachineModel}
use Rattle.krates_units.specs.Requests.{AsksAlike, IsForOther, IsGiven, IsSelected, SelectsNoMember}
use Rattle.krates_units.specs.declared.setting.TargetFlags.{TargetFlags}

-- ---- kinds of targets

-- whether libraries are asked for; they are if no kind is
abbrev pub asks_libraries : TargetFlags → Bool
asks_libraries k = not (asks_kinds k) || (k.lib || k.all)

-- whether programs are asked for; they are if no kind is
abbrev pub asks_programs : TargetFlags → Bool
asks_programs k = not (asks_kinds k) || (k.bins || k.all)

-- each kind of target that the first ask for, the second ask for too
pub record AsksForFewerKinds (narrow wide : TargetFlags) : Type 0 where
  pub libraries : asks_libraries narrow ≡ true → asks_libraries wide ≡ true
  pub programs : asks_programs narrow ≡ true → asks_programs wide ≡ true
  pub examples : (narrow.examples || narrow.all) ≡ true → (wide.examples || wide.all) ≡ true
  pub tests : (narrow.tests || narrow.all) ≡ true → (wide.tests || wide.all) ≡ true
  pub benchmarks : (narrow.benches || narrow.all) ≡ true → (wide.benches || wide.all) ≡ true

-- ---- packages

-- The narrower build asks for some of the packages, which leaves the roots and their requests as they are for these. Without the last two
-- it can build more: where no member is asked for, all are roots; and a feature that is named for a dependency of the folder's package
-- is taken from it if a member of that name is asked for too.
pub record AsksForFewerPackages (r : Resolved) (wide narrow : BuildSettingModel) : Type 0 where
  pub selected : (i : Id) → IsSelected r narrow i → IsSelected r wide i
  -- where members are asked alike, the wider build asks for no member if the narrower asks for none
  pub members : AsksAlike r narrow → SelectsNoMember r narrow → SelectsNoMember r wide
  -- where they aren't, no feature that the narrower build names is for another member in the wider build alone
  pub named : ¬ AsksAlike r narrow → (v : Reference) → IsGiven narrow v → IsForOther r wide v → IsForOther r narrow v

-- ---- the whole build

-- the narrower build asks for a part of what the wider one does, by the same resolver and on the same host
pub record AsksForLess (r : Resolved) (wide narrow : BuildSettingModel) : Type 0 where
  pub resolver : narrow.resolver ≡ wide.resolver
  pub host : narrow.host ≡ wide.host
  -- each machine that it is for; one that names none is for the host
  pub machines : (m : MachineModel) → Contains (machines narrow.host narrow.targets) m → Contains (machines wide.host wide.targets) m
  pub kinds : AsksForFewerKinds narrow.kinds wide.kinds
  pub packages : AsksForFewerPackages r wide narrow
  pub features : (text : Text) → Contains narrow.features text → Contains wide.features text
  pub all_features : narrow.all_features ≡ true → wide.all_features ≡ true
  pub default_features : wide.no_default_features ≡ true → narrow.no_default_features ≡ true

-- the narrower build is a part of the wider one
pub record BuildsPart (r : Resolved) (wide narrow : BuildSettingModel) : Type 0 where
  -- each fact that is derivable of the narrower one is derivable of the wider one, lost dependencies too
  pub facts : (f : Fact) → IsDerivable r narrow f → IsDerivable r wide f
  -- so each crate that it builds is built for the same platform
  pub built : (i : Id) (k : Platform) → IsBuilt r narrow i k → IsBuilt r wide i k
  -- with at least the same features
  pub features : (i : Id) (k : Platform) (f : Text) → IsBuiltWith r narrow i k f → IsBuiltWith r wide i k f
  -- and it lacks nothing if the wider one doesn't
  pub complete : IsComplete r wide → IsComplete r narrow

-- a build that is asked for less builds a part
abbrev pub IsBuildNarrowing : Type 0
IsBuildNarrowing = (r : Resolved) (wide narrow : BuildSettingModel) → AsksForLess r wide narrow → BuildsPart r wide narrow
