-- Why a manifest doesn't say which resolver is used.
use Rattle.std.specs.Prelude.{◌≡◌, None, Some, ⊤}
use Rattle.krates_cm.specs.Document.{Text}
use Rattle.krates_cm.specs.declared.metadata.Metadata.{Metadata}
use Rattle.krates_manifest.specs.ManifestFields.{IsNoResolver, IsTextOf, NamesNone, NamesOne, NamesTwo, package_value}
use Rattle.krates_manifest.specs.ResolverOf.{IsOfRootManifest}
use Rattle.krates_manifest.specs.declared.manifest_error.ManifestError.{ManifestError}
use Rattle.krates_manifest.specs.declared.manifest_error.ManifestError.TheVariants as errors
use Rattle.toml.specs.Data.{Data, Members}
use Rattle.toml.specs.Errors.{IsMemory, IsWithin}
use Rattle.toml.specs.Parse.{parse_document}
use Rattle.toml.specs.View.{view}
use Rattle.toml.specs.declared.de.error.Error as toml

-- what an error of TOML becomes
abbrev pub TomlBecomes : toml.Error → ManifestError → Type 0
TomlBecomes error (errors.NotToml same) = (same ≡ error) × ¬ IsMemory error
TomlBecomes error errors.Memory = IsMemory error
TomlBecomes error _ = ⊥

-- the text is no TOML, and the place of the error is within it
pub record IsNoToml (text : Text) (error : toml.Error) : Type 0 where
  pub none : parse_document text ≡ None
  pub within : IsWithin text error

-- the manifest has a package, and the document has none with this manifest
pub record LacksPackage (manifest : Members) (document : Metadata) : Type 0 where
  pub value : Data
  pub said : package_value manifest ≡ Some value
  pub lacking : IsOfRootManifest document None

-- the refusal says that this value is the name of no resolver; memory may always run out
abbrev pub RefusesName : Data → ManifestError → Type 0
RefusesName value (errors.BadResolver same) = (view same ≡ value) × IsNoResolver value
RefusesName value errors.Memory = ⊤
RefusesName value _ = ⊥

-- the refusal is true of the manifest and the document
abbrev pub IsFaultOf : Members → Metadata → ManifestError → Type 0
IsFaultOf manifest document errors.TwoResolvers = NamesTwo manifest
IsFaultOf manifest document (errors.BadResolver value) = NamesOne manifest (view value) × IsNoResolver (view value)
IsFaultOf manifest document errors.NoPackage = NamesNone manifest × LacksPackage manifest document
IsFaultOf manifest document errors.Memory = ⊤
IsFaultOf manifest document (errors.NotToml error) = ⊥

-- the refusal is true of the text of a manifest and the document; memory may always run out
abbrev pub IsFault : Text → Metadata → ManifestError → Type 0
IsFault text document (errors.NotToml error) = IsNoToml text error
IsFault text document errors.Memory = ⊤
IsFault text document error = (manifest : Members) × IsTextOf text manifest × IsFaultOf manifest document error

-- the refusals have one cause, and name one value as no resolver; memory may run out in place of any
abbrev pub HaveOneCause : ManifestError → ManifestError → Type 0
HaveOneCause errors.Memory other = ⊤
HaveOneCause one errors.Memory = ⊤
HaveOneCause (errors.NotToml one) (errors.NotToml other) = ⊤
HaveOneCause errors.TwoResolvers errors.TwoResolvers = ⊤
HaveOneCause (errors.BadResolver one) (errors.BadResolver other) = view one ≡ view other
HaveOneCause errors.NoPackage errors.NoPackage = ⊤
HaveOneCause one other = ⊥
