-- What a manifest says of the resolver (Cargo Book, "Dependency Resolution", "Resolver versions"). A manifest is the table that its text is
-- in TOML.
use Rattle.std.specs.Prelude.{◌≡◌, ◌≢◌, ◌⊎◌, Option, None, Some, codes, option_and_then}
use Rattle.std.specs.Option.{option_or}
use Rattle.krates_cm.specs.Document.{Text}
use Rattle.krates_units.specs.declared.setting.Resolver.{Resolver}
use Rattle.krates_units.specs.declared.setting.Resolver.TheVariants.{V1, V2, V3}
use Rattle.toml.specs.Data.{Data, Members, get, get_member, string}
use Rattle.toml.specs.Parse.{parse_document}

-- the text is that of the manifest
abbrev pub IsTextOf : Text → Members → Type 0
IsTextOf text manifest = parse_document text ≡ Some manifest

-- What it says of its package: what it has at `package`, or else at `project`, as this was once called (cargo 1.95 warns of it). A manifest
-- that says nothing of a package is virtual (Cargo Book, "Workspaces", "Virtual workspace").
abbrev pub package_value : Members → Option Data
package_value manifest = option_or (get_member (codes "package") manifest) (get_member (codes "project") manifest)

-- what it names as the resolver of its package (Cargo Book, "The Manifest Format", "The `[package]` section")
abbrev pub package_resolver : Members → Option Data
package_resolver manifest = option_and_then (get (codes "resolver")) (package_value manifest)

-- what it names as the resolver of its workspace (Cargo Book, "Workspaces", "The `[workspace]` section")
abbrev pub workspace_resolver : Members → Option Data
workspace_resolver manifest = option_and_then (get (codes "resolver")) (get_member (codes "workspace") manifest)

-- it names this value as the resolver, of its workspace or of its package, and no other
abbrev pub NamesOne : Members → Data → Type 0
NamesOne manifest value =
    ((workspace_resolver manifest ≡ Some value) × (package_resolver manifest ≡ None))
    ⊎ ((workspace_resolver manifest ≡ None) × (package_resolver manifest ≡ Some value))

-- it names one of its workspace, and one of its package
pub record NamesTwo (manifest : Members) : Type 0 where
  pub of_workspace : Data
  pub of_package : Data
  pub first : workspace_resolver manifest ≡ Some of_workspace
  pub second : package_resolver manifest ≡ Some of_package

-- it names none
pub record NamesNone (manifest : Members) : Type 0 where
  pub no_workspace : workspace_resolver manifest ≡ None
  pub no_package : package_resolver manifest ≡ None

-- the name of a resolver
abbrev pub resolver_text : Resolver → Text
resolver_text V1 = codes "1"
resolver_text V2 = codes "2"
resolver_text V3 = codes "3"

-- the value is the name of no resolver
abbrev pub IsNoResolver : Data → Type 0
IsNoResolver value = (resolver : Resolver) → value ≢ string (resolver_text resolver)
