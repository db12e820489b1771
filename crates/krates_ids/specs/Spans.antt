-- Where the pieces of a text are, and the parts of an id by their spans.
use Rattle.std.specs.Prelude.{◌≡◌, ℕ, Bool, ◌-◌, ◌≤◌, ◌++◌, length, take, drop}
use Rattle.std.specs.Str.{IsUtf8, IsCharBoundary}
use Rattle.krates_cm.specs.Document.{Text}
use Rattle.krates_ids.specs.Identity.{Identity}
use Rattle.krates_ids.specs.declared.span.Span.{Span}
use Rattle.krates_ids.specs.declared.span.Parts.{Parts}

-- the piece is in the text from this place on, and a character begins after it, if anything does
pub record StandsAt (t piece : Text) (start : ℕ) : Type 0 where
  pub before : Text
  pub after : Text
  pub is : t ≡ before ++ (piece ++ after)
  pub start_is : start ≡ length before
  pub text_after : IsUtf8 after

-- the bytes of the text that the span marks
abbrev pub part : Text → Span → Text
part t span = take (span.end - span.start) (drop span.start t)

-- the span begins and ends at characters of the text
pub record IsSpan (t : Text) (span : Span) : Type 0 where
  pub ordered : span.start ≤ span.end
  pub starts : IsCharBoundary t span.start
  pub ends : IsCharBoundary t span.end

-- the spans of all three parts
pub record AreSpans (t : Text) (parts : Parts) : Type 0 where
  pub name : IsSpan t parts.name
  pub version : IsSpan t parts.version
  pub source : IsSpan t parts.source

-- the span marks the piece
pub record Marks (t : Text) (span : Span) (piece : Text) : Type 0 where
  pub placed : IsSpan t span
  pub is : part t span ≡ piece

-- the spans mark the name, the version and the source
pub record MarksParts (t : Text) (parts : Parts) (n v s : Text) : Type 0 where
  pub name : Marks t parts.name n
  pub version : Marks t parts.version v
  pub source : Marks t parts.source s

-- the id of a text whose parts the spans mark
abbrev pub identity_of : Text → Parts → Bool → Identity
identity_of t parts opaque =
    record { text = t; name = part t parts.name; version = part t parts.version; source = part t parts.source; is_opaque = opaque }
