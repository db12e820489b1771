-- The listing of the document that cargo writes, and why a run of cargo has none.
use Rattle.std.specs.Prelude.{◌≡◌, Option, ⊤}
use Rattle.std.specs.Io.KnownBytes.{Appends}
use Rattle.krates_cm.specs.Document.{Text}
use Rattle.krates_cm.specs.declared.error.Error as cm
use Rattle.krates_cm.specs.declared.error.Error.TheVariants as cm_errors
use Rattle.krates_cargo.specs.Running.{IsUnrun}
use Rattle.krates_ids.specs.Identity.{Identity}
use Rattle.krates_ids.specs.declared.error.Error as build
use Rattle.krates_rules.specs.Setting.{SettingModel}
use Rattle.krates.specs.Cargo.{IsWritten}
use Rattle.krates_cli.specs.Counted.{AppendsFront}
use Rattle.krates_cli.specs.Listing.{IsListingOf}
use Rattle.krates_cli.specs.ListingRefusals.{IsUnbuilt, IsUnkept}
use Rattle.krates_cli.specs.Request.{Request}
use Rattle.krates_cli.specs.declared.run_error.RunError.{RunError}
use Rattle.krates_cli.specs.declared.run_error.RunError.TheVariants as errors

-- cargo may have written a document with these lines
abbrev pub IsCargoListing : Request → Text → Type 0
IsCargoListing a lines = IsWritten (λ m. IsListingOf a m lines)

-- the lines of a document that cargo may have written are what was added to the known bytes of a writer
pub record WritesCargoListing (a : Request) (old new : Option Text) : Type 0 where
  pub lines : Text
  pub listing : IsCargoListing a lines
  pub appended : Appends old new lines

-- a beginning of them is
pub record WritesCargoBeginning (a : Request) (old new : Option Text) : Type 0 where
  pub lines : Text
  pub listing : IsCargoListing a lines
  pub appended : AppendsFront old new lines

-- cargo wrote no document, for this reason, and not because memory ran out
pub record CargoFault (cause : cm.Error) : Type 0 where
  pub unrun : IsUnrun cause
  pub not_memory : cause ≡ cm_errors.Memory → ⊥

-- a document that cargo may have written has no graph of crates, for this reason
abbrev pub CargoBuildCause : SettingModel → build.Error → Type 0
CargoBuildCause s cause = IsWritten (λ m. IsUnbuilt s m cause)

-- a document that cargo may have written doesn't keep the crate
abbrev pub CargoKeepsNot : Request → Identity → Type 0
CargoKeepsNot a krate = IsWritten (λ m. IsUnkept a m krate)

-- Why a run of cargo has no listing, or it isn't written. Memory may always run out, and a call of the writer may always fail.
abbrev pub CargoRefusal : Request → RunError → Type 0
CargoRefusal a (errors.Parse cause) = CargoFault cause
CargoRefusal a (errors.Build cause) = CargoBuildCause a.setting cause
CargoRefusal a (errors.NotKept krate) = CargoKeepsNot a krate
CargoRefusal a errors.Write = (lines : Text) × IsCargoListing a lines
CargoRefusal a errors.Memory = ⊤
CargoRefusal a _ = ⊥
