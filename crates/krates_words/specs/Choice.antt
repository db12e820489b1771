-- Which part of a document counts: the setting that a choice means.
use Rattle.std.specs.Prelude.{◌≡◌, ◌++◌, ◌↔◌, ◌⊎◌, Bool, true, List, Contains, map, string_bytes}
use Rattle.std.specs.List.{AllZip}
use Rattle.krates_ids.specs.PackageSpecification.{spec_view}
use Rattle.krates_rules.specs.Kind.{ignores}
use Rattle.krates_rules.specs.Setting.{SettingModel, IsManifestOf}
use Rattle.krates_rules.specs.declared.kind.DepKind.{DepKind}
use Rattle.krates_rules.specs.declared.kind.IgnoredKinds.{IgnoredKinds}
use Rattle.krates_text.specs.AskedTargets.{asked_of}
use Rattle.krates_words.specs.declared.choice.Choice.{Choice}

-- Dependencies of exactly these kinds are ignored, whichever crate has them.
abbrev pub IgnoresJust : List DepKind → IgnoredKinds → Type 0
IgnoresJust kinds ignored = (kind : DepKind) (is_member : Bool) → (ignores ignored kind is_member ≡ true) ↔ Contains kinds kind

-- The setting is exactly what the choice means, with these kinds ignored too.
pub record IsSettingOf (c : Choice) (also_ignored : List DepKind) (s : SettingModel) : Type 0 where
  -- the targets, with their features
  pub targets : s.targets ≡ map asked_of c.targets.items
  -- the manifests in the directories of the members that are roots
  pub manifests : AllZip IsManifestOf (map string_bytes c.packages.items) s.manifests
  pub exclusions : s.exclusions ≡ map spec_view c.exclusions.items
  pub ignored : IgnoresJust (c.ignored.items ++ also_ignored) s.ignored
  pub workspace : s.workspace ≡ c.workspace
  pub all_named : s.all_named ≡ c.all_named

-- ---- kind by kind; cited by private functions alone

-- What was ignored still is, and so are dependencies of these kinds, whichever crate has them; nothing else is.
abbrev pub IgnoresToo : IgnoredKinds → IgnoredKinds → List DepKind → Type 0
IgnoresToo old new kinds = (kind : DepKind) (is_member : Bool)
    → (ignores new kind is_member ≡ true) ↔ ((ignores old kind is_member ≡ true) ⊎ Contains kinds kind)
