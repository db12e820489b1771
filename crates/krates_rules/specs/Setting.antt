-- The caller's setting, and what it says about packages, edges and targets (Cargo Book, "Package ID
-- Specifications" and "Platform specific dependencies").
use Rattle.std.specs.Prelude.{◌≡◌, ◌++◌, List, Bool, true, false, Option, MatchOption, Contains, ⊤, codes, map}
use Rattle.std.specs.List.{AllZip}
use Rattle.std.specs.Borrow.{Bor}
use Rattle.std.specs.Path.{path_join}
use Rattle.krates_cm.specs.Document.{Text, PackageModel}
use Rattle.krates_ids.specs.PackageSpecification.{Specification, SpecFits}
use Rattle.krates_text.specs.Passing.{Asked, TellsPassing}
use Rattle.krates_text.specs.Path.{EndsWithPath}
use Rattle.krates_rules.specs.Facts.{Edge}
use Rattle.krates_rules.specs.Kind.{kind_of, ignores}
use Rattle.krates_rules.specs.Resolved.{Resolved, IsMember}
use Rattle.krates_rules.specs.declared.kind.IgnoredKinds.{IgnoredKinds}

-- ---- what is set

-- what the caller sets
pub record SettingModel : Type 0 where
  pub targets : List Asked  -- the targets that are asked, each with its features
  pub manifests : List Text  -- the manifests of the crates that are roots, where any are set
  pub exclusions : List Specification  -- the packages that are left out
  pub ignored : IgnoredKinds  -- the kinds of the dependencies that are ignored
  pub workspace : Bool  -- whether every member is a root, even if the graph has a root
  pub all_named : Bool  -- whether a name in a reference means all dependencies that match it, not only the least

-- ---- the manifest of a path

abbrev pub cargo_toml : Text
cargo_toml = codes "Cargo.toml"

-- the manifest that a path means: the path itself if it ends in the component `Cargo.toml`, otherwise the path with that joined
pub record IsManifestOf (path manifest : Text) : Type 0 where
  pub itself : EndsWithPath path cargo_toml → manifest ≡ path
  pub within : (EndsWithPath path cargo_toml → ⊥) → manifest ≡ path_join path cargo_toml

-- the manifests of these paths are set too, and nothing else has changed
pub record AsksForPaths (old new : SettingModel) (paths : List (Bor Text)) : Type 0 where
  pub manifests : List Text
  pub meant : AllZip IsManifestOf (map (λ path. path.now) paths) manifests
  pub appended : new ≡ record old { manifests = old.manifests ++ manifests }

-- ---- what it says

-- the package is excluded: one of the specifications fits it
pub record IsExcluded (s : SettingModel) (p : PackageModel) : Type 0 where
  pub spec : Specification
  pub among : Contains s.exclusions spec
  pub fits : SpecFits spec p

-- the edge is ignored: its kind is, for a parent that is a member or for one that isn't
pub data IsIgnored (r : Resolved) (s : SettingModel) (e : Edge) : Type 0 where
  of_member : IsMember r e.parent → ignores s.ignored (kind_of e.kind) true ≡ true → IsIgnored r s e
  of_other : (IsMember r e.parent → ⊥) → ignores s.ignored (kind_of e.kind) false ≡ true → IsIgnored r s e

-- The target text of an edge passes. A text that is a cfg expression passes as one, any other as a triple.
abbrev pub Passes : SettingModel → Option Text → Type 0
Passes s cfg = MatchOption cfg ⊤ (λ text. TellsPassing text s.targets true)
