-- Why a text has no listing, and why a run has no answer.
use Rattle.std.specs.Prelude.{◌≡◌, List, Some, IsUtf8, ⊤}
use Rattle.krates_cm.specs.Document.{Text, metadata_view}
use Rattle.krates_cm.specs.declared.error.Error as cm
use Rattle.krates_cm.specs.declared.error.Error.TheVariants as cm_errors
use Rattle.krates_cm.specs.declared.metadata.Metadata.{Metadata}
use Rattle.krates_cm.specs.declared.package.Package.{Package}
use Rattle.krates_cm_json.specs.Parsing.{IsDocument, IsRefusal}
use Rattle.krates_ids.specs.Identity.{Identity}
use Rattle.krates_ids.specs.declared.error.Error as build
use Rattle.krates_ids.specs.declared.error.Error.TheVariants as build_errors
use Rattle.krates_rules.specs.Resolved.{id_of}
use Rattle.krates_rules.specs.Setting.{SettingModel}
use Rattle.krates.specs.Build.{BuildRefusalAsGiven, DropsCrate}
use Rattle.krates_cli.specs.Listing.{IsListing, IsSplit}
use Rattle.krates_cli.specs.Request.{Request}
use Rattle.krates_cli.specs.declared.run_error.RunError.{RunError}
use Rattle.krates_cli.specs.declared.run_error.RunError.TheVariants as errors

-- the text isn't a document, for this reason, and not because memory ran out
pub record ParseRefusal (text : Text) (cause : cm.Error) : Type 0 where
  pub refused : IsRefusal text cause
  pub not_memory : cause ≡ cm_errors.Memory → ⊥

-- the document has no graph of crates under the setting, for this reason, and not because memory ran out
pub record IsUnbuilt (s : SettingModel) (m : Metadata) (cause : build.Error) : Type 0 where
  pub refused : BuildRefusalAsGiven m s cause
  pub not_memory : cause ≡ build_errors.Memory → ⊥

-- the document is built under the setting, and doesn't keep the crate, whose derivation is requested
pub record IsUnkept (a : Request) (m : Metadata) (krate : Identity) : Type 0 where
  pub asked : a.explaining ≡ Some krate
  pub kept : List Package
  pub others : List Package
  pub split : IsSplit a.setting m kept others
  pub dropped : DropsCrate (metadata_view m) a.setting (id_of krate)

-- why a document has no listing
abbrev pub IsUnlisted : Request → Metadata → RunError → Type 0
IsUnlisted a m (errors.Build cause) = IsUnbuilt a.setting m cause
IsUnlisted a m (errors.NotKept krate) = IsUnkept a m krate
IsUnlisted a m errors.Memory = ⊤
IsUnlisted a m _ = ⊥

-- the text is a document that is unbuilt for this reason
pub record BuildCause (s : SettingModel) (text : Text) (cause : build.Error) : Type 0 where
  pub metadata : Metadata
  pub document : IsDocument text (metadata_view metadata)
  pub unbuilt : IsUnbuilt s metadata cause

-- the text is a document that doesn't keep the crate
pub record KeepsNot (a : Request) (text : Text) (krate : Identity) : Type 0 where
  pub metadata : Metadata
  pub document : IsDocument text (metadata_view metadata)
  pub unkept : IsUnkept a metadata krate

-- why a text has no listing
abbrev pub ListingRefusal : Request → Text → RunError → Type 0
ListingRefusal a text (errors.Parse cause) = ParseRefusal text cause
ListingRefusal a text (errors.Build cause) = BuildCause a.setting text cause
ListingRefusal a text (errors.NotKept krate) = KeepsNot a text krate
ListingRefusal a text errors.Memory = ⊤
ListingRefusal a text _ = ⊥

-- Why a run over these bytes has no answer: the first class that is true of them counts. Memory may always run out, and a call of the reader or
-- the writer may always fail.
abbrev pub RunRefusal : Request → Text → RunError → Type 0
RunRefusal a bytes errors.Read = ⊤
RunRefusal a bytes errors.Utf8 = IsUtf8 bytes → ⊥
RunRefusal a bytes (errors.Parse cause) = IsUtf8 bytes × ParseRefusal bytes cause
RunRefusal a bytes (errors.Build cause) = IsUtf8 bytes × BuildCause a.setting bytes cause
RunRefusal a bytes (errors.NotKept krate) = IsUtf8 bytes × KeepsNot a bytes krate
RunRefusal a bytes errors.Write = IsUtf8 bytes × ((lines : Text) × IsListing a bytes lines)
RunRefusal a bytes errors.Memory = ⊤

-- The cause isn't the text's: a call failed, memory ran out, or there are more nodes or edges than can be numbered.
abbrev pub IsOutside : RunError → Type 0
IsOutside errors.Read = ⊤
IsOutside errors.Write = ⊤
IsOutside errors.Memory = ⊤
IsOutside (errors.Build cause) = cause ≡ build_errors.TooMany
IsOutside _ = ⊥
