-- The features of a package, corrected by what the index of crates.io knows about it: an index may have features that the
-- manifest lacks, and an optional dependency is a feature of its name.
use Rattle.std.specs.Prelude.{◌≡◌, ◌≢◌, ℕ, ◌<◌, List, [], ◌∷◌, ◌++◌, Option, Some, None, codes, slice_get, map, option_map}
use Rattle.std.specs.Option.{option_or}
use Rattle.std.specs.List.{Contains}
use Rattle.std.specs.Map.{lookup}
use Rattle.std.specs.Str.{bytes_eq}
use Rattle.semver.specs.Identifiers.{parts_of}
use Rattle.krates_cm.specs.Document.{Text, text_view, VersionModel, FeaturesModel, features_view, PackageModel}
use Rattle.krates_cm.specs.Queries.{crates_io}
use Rattle.krates_text.specs.FeatureReference.{IsReference, simple}
use Rattle.krates_ids.specs.declared.index.IndexAnswer.{IndexAnswer}
use Rattle.krates_ids.specs.declared.index.IndexKrate.{IndexKrate}
use Rattle.krates_ids.specs.declared.index.IndexKrateVersion.{IndexKrateVersion}

-- ---- what an index answers

-- a version of a crate, with its features
pub record IndexVersionModel : Type 0 where
  pub version : VersionModel
  pub features : FeaturesModel

-- a version that the index knows, with its features
abbrev pub index_version_view : IndexKrateVersion → IndexVersionModel
index_version_view v = record { version = parts_of v.version; features = features_view v.features }

-- the versions of a crate that the index knows
abbrev pub index_krate_view : IndexKrate → List IndexVersionModel
index_krate_view k = map index_version_view k.versions.items

-- the crates by name, each with its versions, or without any where the index lacks the crate
abbrev pub IndexModel : Type 0
IndexModel = List (Text × Option (List IndexVersionModel))

-- what the index answers, by name
abbrev pub index_view : IndexAnswer → IndexModel
index_view a = map (λ e. (text_view e.0, option_map index_krate_view e.1)) a.krates.entries

-- ---- which package is touched

-- the value under a name
abbrev pub named : {A : Type 0} → List (Text × A) → Text → Option A
named entries name = lookup (bytes_eq name) entries

-- at this place is the first of the versions that equals this one in all five parts, with these features
pub record IsFirstEqual (versions : List IndexVersionModel) (version : VersionModel) (place : ℕ) (features : FeaturesModel) : Type 0 where
  pub here : slice_get versions place ≡ Some (record { version = version; features = features })
  pub first : (k : ℕ) (v : IndexVersionModel) → k < place → slice_get versions k ≡ Some v → v.version ≢ version

-- the package is of crates.io, and the index has its crate, with these features at its version
pub record IsIndexed (index : IndexModel) (pkg : PackageModel) (features : FeaturesModel) : Type 0 where
  pub source : pkg.source ≡ Some crates_io
  pub versions : List IndexVersionModel
  pub has_crate : named index pkg.name ≡ Some (Some versions)
  pub version : (place : ℕ) × IsFirstEqual versions pkg.version place features

-- ---- the corrected features

-- a feature's values by its name, where there is such a feature
abbrev pub Features : Type 0
Features = Text → Option (List Text)

-- the features of the manifest, and those that only the index has
abbrev pub joined : FeaturesModel → FeaturesModel → Features
joined manifest index name = option_or (named manifest name) (named index name)

-- among the values of some feature is a simple reference to this name
pub record Refers (features : Features) (name : Text) : Type 0 where
  pub feature : Text
  pub values : List Text
  pub is : features feature ≡ Some values
  pub among : Contains values name
  pub plain : IsReference name (simple name)

-- the reference to the dependency of that name
abbrev pub dependency_reference : Text → Text
dependency_reference name = codes "dep:" ++ name

-- The corrected features: those of the manifest keep their values, and those that only the index has are added; then a simple
-- reference to a name that isn't a feature so far makes it one, which enables the dependency of that name; there are no others.
pub record IsCorrection (manifest index corrected : FeaturesModel) : Type 0 where
  pub has_joined : (name : Text) (values : List Text) → joined manifest index name ≡ Some values → named corrected name ≡ Some values
  pub referred : (name : Text) → joined manifest index name ≡ None → Refers (joined manifest index) name
      → named corrected name ≡ Some (dependency_reference name ∷ [])
  pub no_other : (name : Text) → joined manifest index name ≡ None → (Refers (joined manifest index) name → ⊥)
      → named corrected name ≡ None

-- the package with other features
abbrev pub with_features : PackageModel → FeaturesModel → PackageModel
with_features pkg features = record pkg { features = features }

-- The package after a correction: if the index has it, its features are corrected and nothing else; otherwise it is unchanged.
pub data IsCorrected (index : IndexModel) (before after : PackageModel) : Type 0 where
  unknown : ((features : FeaturesModel) → IsIndexed index before features → ⊥) → after ≡ before → IsCorrected index before after
  known : (features : FeaturesModel) → IsIndexed index before features → IsCorrection before.features features after.features
      → after ≡ with_features before after.features → IsCorrected index before after
