-- The program that a command runs, and what a run returns.
use Rattle.std.specs.Prelude.{◌≡◌, ◌≢◌, Bool, true, false, List, Option, Some, None, codes}
use Rattle.std.specs.Borrow.{Bor}
use Rattle.std.specs.Map.{lookup}
use Rattle.std.specs.Option.{option_map}
use Rattle.std.specs.IoError.{error_kind}
use Rattle.std.specs.Process.{clears_env, command_var}
use Rattle.std.specs.Str.{bytes_eq}
use Rattle.std.specs.declared.alloc.Global.{Global}
use Rattle.std.specs.declared.io.ErrorKind.TheVariants as kinds
use Rattle.std.specs.declared.process.command.Command.{Command}
use Rattle.krates_cm.specs.Document.{Text, MetadataModel}
use Rattle.krates_cm.specs.declared.error.Error.{Error}
use Rattle.krates_cm.specs.declared.error.Error.TheVariants as errors
use Rattle.krates_cargo.specs.Output.{IsAnswer, IsNoAnswer}

-- the program that is set, or the one that the caller passes, or `cargo`
abbrev pub program : Option Text → Option (Bor Text) → Text
program (Some path) cargo = path
program None (Some cargo) = cargo.now
program None None = codes "cargo"

-- the command sets only these variables, in the environment that it inherits
abbrev pub SetsJust : List (Text × Text) → Command Global → Type 0
SetsJust variables c =
    (clears_env c ≡ false) × ((name : Text) → command_var c name ≡ option_map Some (lookup (bytes_eq name) variables))

-- some output of a cargo that succeeded has the document
abbrev pub IsSomeAnswer : MetadataModel → Type 0
IsSomeAnswer m = (stdout : Text) × IsAnswer true stdout m

-- some output of cargo has no document, for this reason
abbrev pub IsNotRead : Error → Type 0
IsNotRead e = (success : Bool) × (stdout : Text) × (stderr : Text) × IsNoAnswer success stdout stderr e

-- why a run has no document: cargo couldn't be run, other than because memory ran out, or what it wrote has no document
abbrev pub IsUnrun : Error → Type 0
IsUnrun (errors.Io cause) = error_kind cause ≢ kinds.OutOfMemory
IsUnrun e = IsNotRead e
