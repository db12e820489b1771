-- The resolver that a workspace uses, by the manifest of its root and the document (Cargo Book, "Dependency Resolution", "Resolver
-- versions": "The resolver is a global option that affects the entire workspace").
use Rattle.std.specs.Prelude.{◌≡◌, ◌⊎◌, Option, None, Some}
use Rattle.krates_cm.specs.Document.{Text, text_view}
use Rattle.krates_cm.specs.Queries.{IsFirst, IsManifestIn}
use Rattle.krates_cm.specs.declared.metadata.Metadata.{Metadata}
use Rattle.krates_cm.specs.declared.package.Package.{Package}
use Rattle.krates_cm.specs.declared.target.Edition.{Edition}
use Rattle.krates_cm.specs.declared.target.Edition.TheVariants.{E2015, E2018, E2021, E2024}
use Rattle.krates_units.specs.declared.setting.Resolver.{Resolver}
use Rattle.krates_units.specs.declared.setting.Resolver.TheVariants.{V1, V2, V3}
use Rattle.krates_manifest.specs.ManifestFields.{IsTextOf, NamesNone, NamesOne, package_value, resolver_text}
use Rattle.toml.specs.Data.{Data, Members, string}

-- the manifest of the package is `Cargo.toml` in the workspace's root, paths being compared by components
abbrev pub HasRootManifest : Metadata → Package → Type 0
HasRootManifest document pkg = IsManifestIn (text_view document.workspace_root) (text_view pkg.manifest_path)

-- the first package of the document with the manifest of the workspace's root, if it has one
abbrev pub IsOfRootManifest : Metadata → Option Package → Type 0
IsOfRootManifest document found = IsFirst (HasRootManifest document) document.packages.items found

-- the resolver of an edition (Cargo Book, "Dependency Resolution", "Resolver versions": `"1"` is the default, `"2"` that of the edition
-- 2021, and `"3"` that of the edition 2024)
abbrev pub edition_resolver : Edition → Resolver
edition_resolver E2015 = V1
edition_resolver E2018 = V1
edition_resolver E2021 = V2
edition_resolver E2024 = V3

-- the manifest has a package, and it is the resolver of that package's edition, which the document says (Cargo Book, "Dependency Resolution",
-- "Resolver versions")
pub record IsOfEdition (manifest : Members) (document : Metadata) (resolver : Resolver) : Type 0 where
  pub value : Data
  pub said : package_value manifest ≡ Some value
  pub pkg : Package
  pub found : IsOfRootManifest document (Some pkg)
  pub is : resolver ≡ edition_resolver pkg.edition

-- the manifest is virtual, and it is the first resolver, whatever the editions of the members are (Cargo Book, "Workspaces", "Virtual
-- workspace": "virtual workspaces have no `package.edition` to infer it from")
pub record IsOfVirtual (manifest : Members) (resolver : Resolver) : Type 0 where
  pub virtual : package_value manifest ≡ None
  pub is : resolver ≡ V1

-- the resolver that is used where none is named
abbrev pub IsDefaultOf : Members → Metadata → Resolver → Type 0
IsDefaultOf manifest document resolver = IsOfEdition manifest document resolver ⊎ IsOfVirtual manifest resolver

-- the resolver that is used with this manifest: the one that it names, or the default where it names none
abbrev pub IsResolverOf : Members → Metadata → Resolver → Type 0
IsResolverOf manifest document resolver =
    NamesOne manifest (string (resolver_text resolver)) ⊎ (NamesNone manifest × IsDefaultOf manifest document resolver)

-- the resolver that is used with the manifest of this text
pub record IsResolver (text : Text) (document : Metadata) (resolver : Resolver) : Type 0 where
  pub manifest : Members
  pub is : IsTextOf text manifest
  pub used : IsResolverOf manifest document resolver
