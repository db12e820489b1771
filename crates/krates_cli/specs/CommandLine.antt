-- What the program says on standard error.
use Rattle.std.specs.Prelude.{◌≡◌, ◌++◌, ◌⊎◌, List, Option, None, Some, IfSome, IsSome, IsSomeAnd, IsUtf8, codes}
use Rattle.std.specs.Io.KnownBytes.{Appends}
use Rattle.krates_cm.specs.Document.{Text}
use Rattle.krates_cli.specs.CargoListing.{CargoRefusal, WritesCargoBeginning, WritesCargoListing}
use Rattle.krates_cli.specs.Counted.{AppendsFront, HasFailed, inner_of}
use Rattle.krates_cli.specs.Listing.{IsListing, WritesBeginning, WritesListing}
use Rattle.krates_cli.specs.ListingRefusals.{RunRefusal}
use Rattle.krates_cli.specs.Options.{OptionsModel, IsCommandLine, request_of}
use Rattle.krates_cli.specs.Request.{Request}
use Rattle.krates_cli.specs.declared.counted.Counted.{Counted}
use Rattle.krates_cli.specs.declared.run_error.RunError.{RunError}
use Rattle.krates_cli.specs.declared.run_error.RunError.TheVariants as errors

-- which words there are
abbrev pub usage_line : Text
usage_line = codes "usage: krates-list [--workspace] [--ignore-kind KIND] [--target TRIPLE] [--exclude SPEC] [--cargo PROGRAM] [--why ID] [--all-named]\n"

abbrev pub no_memory_line : Text
no_memory_line = codes "refused: out of memory\n"

-- the text was written, or a call of the writer failed and a beginning of the text was written
abbrev pub IsTold : {E : Type 0} → (E → Option Text) → Counted E → Counted E → Text → Type 0
IsTold contents old new text = Appends (contents (inner_of old)) (contents (inner_of new)) text
    ⊎ (HasFailed old new × AppendsFront (contents (inner_of old)) (contents (inner_of new)) text)

-- the words are options, and this is true of them
abbrev pub Asking : List Text → (OptionsModel → Type 0) → Type 0
Asking words P = (o : OptionsModel) × IsCommandLine words o × P o

-- What is added to the known bytes of a writer: the lines of what is to be read, where that is known; or, where a program is
-- set, those of the document that it writes.
abbrev pub WritesLines : Option Text → Request → Option Text → Option Text → Option Text → Type 0
WritesLines None a remaining old new = IfSome remaining (λ bytes. WritesListing a bytes old new)
WritesLines (Some cargo) a remaining old new = WritesCargoListing a old new

-- a beginning of them is
abbrev pub WritesFront : Option Text → Request → Option Text → Option Text → Option Text → Type 0
WritesFront None a remaining old new = IfSome remaining (λ bytes. WritesBeginning a bytes old new)
WritesFront (Some cargo) a remaining old new = WritesCargoBeginning a old new

-- why there are no such lines, or they aren't written
abbrev pub LinesRefusal : Option Text → Request → Option Text → RunError → Type 0
LinesRefusal None a remaining cause = IfSome remaining (λ bytes. RunRefusal a bytes cause)
LinesRefusal (Some cargo) a remaining cause = CargoRefusal a cause

-- The cause is true of the words, and of the bytes that are to be read, where those are known, or of the program that is
-- set. Memory may always run out.
abbrev pub IsCause : List Text → Option Text → RunError → Type 0
IsCause words remaining cause =
    (cause ≡ errors.Memory) ⊎ Asking words (λ o. LinesRefusal o.cargo (request_of o) remaining cause)

-- the words are options that set no program, and what is to be read has a listing under it
abbrev pub AskForListing : List Text → Option Text → Type 0
AskForListing words remaining = Asking words (λ o. (o.cargo ≡ None)
    × IsSomeAnd remaining (λ bytes. IsUtf8 bytes × ((lines : Text) × IsListing (request_of o) bytes lines)))

-- the words set a program
abbrev pub AskForProgram : List Text → Type 0
AskForProgram words = Asking words (λ o. IsSome o.cargo)

-- What a cause says of the reader and the writer: a failed call is counted where the cause is one, and nothing is written unless
-- the writer failed.
pub record LeavesEnds {R W : Type 0} (input after : Counted R) (output left : Counted W) (cause : RunError) : Type 0 where
  pub read : cause ≡ errors.Read → HasFailed input after
  pub write : cause ≡ errors.Write → HasFailed output left
  pub unwritten : (cause ≡ errors.Write → ⊥) → left ≡ output

-- the line that says a cause
abbrev pub refusal_line : Text → Text
refusal_line cause = codes "refused: " ++ (cause ++ codes "\n")

-- The line was written with the text that is printed for the cause, which is this one where it is stated; or, instead of it, that
-- memory ran out.
abbrev pub TellsCause : {E : Type 0} → (E → Option Text) → Counted E → Counted E → Option Text → Type 0
TellsCause contents old new printed =
    ((text : Text) × IfSome printed (λ stated. text ≡ stated) × IsTold contents old new (refusal_line text)) ⊎ IsTold contents old new no_memory_line
