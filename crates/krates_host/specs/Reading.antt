-- What is read within a limit.
use Rattle.std.specs.Prelude.{◌≡◌, ◌<◌, ◌++◌, ℕ, Option, length}
use Rattle.std.specs.Io.KnownBytes.{Consumes}
use Rattle.krates_cm.specs.Document.{Text}

-- there are more bytes than the limit allows
abbrev pub IsLonger : ℕ → Text → Type 0
IsLonger max known = max < length known

-- what the reader has left loses bytes at its front, which are added to those that were read before
abbrev pub Adds : Option Text → Option Text → Text → Text → Type 0
Adds left left_then bytes bytes_then = (more : Text) × Consumes left left_then more × (bytes_then ≡ bytes ++ more)

-- the reader gives bytes that are, with those that were read before, more than the limit allows
abbrev pub IsTooLong : Option Text → Text → ℕ → Type 0
IsTooLong left bytes max =
    (left_then : Option Text) × (more : Text) × Consumes left left_then more × IsLonger max (bytes ++ more)
