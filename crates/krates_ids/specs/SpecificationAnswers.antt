-- What the functions that read a package specification return.
use Rattle.std.specs.Prelude.{Option, MatchOption, option_map, Some, None, Result, Ok, Err}
use Rattle.std.specs.Borrow.{Bor}
use Rattle.krates_cm.specs.Document.{Text, VersionModel}
use Rattle.krates_ids.specs.PackageSpecification.{IsUnsplit, SplitAt, IsUrlOf, bad_version}
use Rattle.krates_ids.specs.declared.error.Error.{Error}
use Rattle.krates_ids.specs.declared.error.Error.TheVariants as errors

-- a text that may be missing
abbrev pub given : Option (Bor Text) → Option Text
given t = option_map (λ text. text.now) t

-- the error is a refusal with a text that is true, or running out of memory
abbrev pub IsRefusedBy : (Text → Type 0) → Error → Type 0
IsRefusedBy P (errors.InvalidPkgSpec refusal) = P refusal.now
IsRefusedBy P errors.Memory = Unit {0}
IsRefusedBy P _ = ⊥

-- the result is what the relation gives, or memory ran out
abbrev pub Answers : {A B : Type 0} → (A → B) → (Result B Text → Type 0) → Result A Error → Type 0
Answers view P (Ok a) = P (Ok (view a))
Answers view P (Err e) = IsRefusedBy (λ refusal. P (Err refusal)) e

-- a version, if the text is one
abbrev pub version_outcome : Option VersionModel → Result VersionModel Text
version_outcome None = Err bad_version
version_outcome (Some version) = Ok version

-- the text, split at its first ':' or '@', where it has one
abbrev pub Splits : Text → Option (Bor Text × Bor Text) → Type 0
Splits t r = MatchOption r (IsUnsplit t) (λ p. SplitAt t p.0.now p.1.now)

-- the url of a source, where it has one
abbrev pub FindsUrl : Text → Option (Bor Text) → Type 0
FindsUrl source r = MatchOption r ((url : Text) → IsUrlOf source url → ⊥) (λ url. IsUrlOf source url.now)
