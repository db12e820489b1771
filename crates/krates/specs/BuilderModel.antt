-- What a builder holds, as clauses see it, and how its setters change it.
use Rattle.std.specs.Prelude.{◌≡◌, List, Option, String, Vec, map}
use Rattle.std.specs.Borrow.{Bor}
use Rattle.std.specs.declared.alloc.Global.{Global}
use Rattle.krates_document.specs.SettingChanges.{with_exclusions, with_targets}
use Rattle.krates_ids.specs.PackageSpecification.{spec_view}
use Rattle.krates_ids.specs.declared.pkgspec.PkgSpec.{PkgSpec}
use Rattle.krates_rules.specs.Setting.{SettingModel, AsksForPaths}
use Rattle.krates_rules.specs.declared.kind.IgnoredKinds.{IgnoredKinds}
use Rattle.krates_text.specs.AskedTargets.{asked_of}
use Rattle.krates_text.specs.declared.target.Target.{Target}
use Rattle.krates_cm.specs.Document.{Text}

-- the setting, and where packages are looked up
pub record BuilderModel (S : Type 0) : Type 0 where
  pub setting : SettingModel
  pub index : Option S

-- the builder with another setting
abbrev pub with_setting : {S : Type 0} → BuilderModel S → SettingModel → BuilderModel S
with_setting b s = record b { setting = s }

-- ---- the setters

-- these kinds of dependencies are ignored
abbrev pub ignoring : {S : Type 0} → BuilderModel S → IgnoredKinds → BuilderModel S
ignoring b kinds = with_setting b (record (b.setting) { ignored = kinds })

-- the packages that these fit are left out too
abbrev pub excluding : {S : Type 0} → BuilderModel S → List PkgSpec → BuilderModel S
excluding b specs = with_setting b (with_exclusions b.setting (map spec_view specs))

-- dependencies are kept for these targets too
abbrev pub at_targets : {S : Type 0} → BuilderModel S → List (Target × Vec (String Global) Global) → BuilderModel S
at_targets b targets = with_setting b (with_targets b.setting (map asked_of targets))

-- the crates with the manifests that these paths mean are roots too, and nothing else has changed
abbrev pub AsksForCrates : {S : Type 0} → BuilderModel S → BuilderModel S → List (Bor Text) → Type 0
AsksForCrates old new paths = AsksForPaths old.setting new.setting paths × (new.index ≡ old.index)
