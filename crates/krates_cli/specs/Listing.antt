-- The listing of a document: what is written for a text that is read, by what is asked.
use Rattle.std.specs.Prelude.{◌≡◌, ◌↔◌, List, Option, Contains, IsUtf8, MatchOption, map}
use Rattle.std.specs.Io.KnownBytes.{Appends}
use Rattle.krates_cm.specs.Document.{Text, metadata_view}
use Rattle.krates_cm.specs.declared.metadata.Metadata.{Metadata}
use Rattle.krates_cm.specs.declared.package.Package.{Package}
use Rattle.krates_cm_json.specs.Parsing.{IsDocument}
use Rattle.krates_rules.specs.DerivationTexts.{derivation_lines}
use Rattle.krates_rules.specs.declared.derivation.Step.{Step}
use Rattle.krates_ids.specs.Identity.{Identity}
use Rattle.krates_rules.specs.Facts.{Id, Cause, Lost}
use Rattle.krates_rules.specs.Resolved.{id_of}
use Rattle.krates_rules.specs.Setting.{SettingModel}
use Rattle.krates_rules.specs.Resolution.{IsDerived}
use Rattle.krates.specs.Build.{IsResolvable, KeepsCrate, DropsCrate}
use Rattle.krates_drawing.specs.Listed.{AreThosePackages}
use Rattle.krates_cli.specs.Counted.{AppendsFront}
use Rattle.krates_cli.specs.Lines.{lines_of}
use Rattle.krates_cli.specs.Request.{Request}
use Rattle.krates_cli.specs.WhyKept.{IsWhyKept}

-- The document can be resolved and lacks nothing, and these are its packages: those that have to be kept under the
-- setting, and the others, both in the order of their ids.
pub record IsSplit (s : SettingModel) (m : Metadata) (kept others : List Package) : Type 0 where
  pub resolvable : IsResolvable (metadata_view m)
  pub none_lost : (c : Cause) → IsDerived (metadata_view m) s (Lost c) → ⊥
  pub some : (i : Id) × KeepsCrate (metadata_view m) s i
  pub kept_ids : List Identity
  pub every : (i : Id) → KeepsCrate (metadata_view m) s i ↔ Contains (map id_of kept_ids) i
  pub kept_are : AreThosePackages m.packages.items (KeepsCrate (metadata_view m) s) kept_ids kept
  pub other_ids : List Identity
  pub others_are : AreThosePackages m.packages.items (DropsCrate (metadata_view m) s) other_ids others

-- These are the lines of a document's packages.
pub record ListsPackages (s : SettingModel) (m : Metadata) (lines : Text) : Type 0 where
  pub kept : List Package
  pub others : List Package
  pub split : IsSplit s m kept others
  pub written : lines ≡ lines_of kept others

-- These are the lines of the steps of a derivation of the crate, whose ids are those of the kept packages.
pub record ExplainsCrate (s : SettingModel) (m : Metadata) (krate : Identity) (lines : Text) : Type 0 where
  pub kept : List Package
  pub others : List Package
  pub split : IsSplit s m kept others
  pub steps : List Step
  pub why : IsWhyKept s (metadata_view m) split.kept_ids krate steps
  pub written : lines ≡ derivation_lines steps

-- These are the lines that are requested: of the packages, or of the derivation of a crate.
abbrev pub IsListingOf : Request → Metadata → Text → Type 0
IsListingOf a m lines = MatchOption a.explaining (ListsPackages a.setting m lines) (λ krate. ExplainsCrate a.setting m krate lines)

-- The text is a document, and these are the lines that are requested of it.
pub record IsListing (a : Request) (text lines : Text) : Type 0 where
  pub metadata : Metadata
  pub document : IsDocument text (metadata_view metadata)
  pub lists : IsListingOf a metadata lines

-- The bytes are a text, and its listing is what was added to the known bytes of a writer.
pub record WritesListing (a : Request) (bytes : Text) (old new : Option Text) : Type 0 where
  pub is_text : IsUtf8 bytes
  pub lines : Text
  pub listing : IsListing a bytes lines
  pub appended : Appends old new lines

-- The bytes are a text, and a beginning of its listing is what was added to the known bytes of a writer.
pub record WritesBeginning (a : Request) (bytes : Text) (old new : Option Text) : Type 0 where
  pub is_text : IsUtf8 bytes
  pub lines : Text
  pub listing : IsListing a bytes lines
  pub appended : AppendsFront old new lines
