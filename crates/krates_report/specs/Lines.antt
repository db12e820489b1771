-- What is written of the lines of an answer.
use Rattle.std.specs.Prelude.{◌≡◌, ◌&&◌, Bool, true, [], ◌++◌, Option, IfSome, string_bytes}
use Rattle.krates_cm.specs.Document.{Text}
use Rattle.krates_report.specs.LineTexts.{shown_line}
use Rattle.krates_report.specs.declared.lines.Lines.{Lines}
use Rattle.krates_text.specs.WrittenText.{held}

-- the lines that are ended
abbrev pub ended_of : Lines → Text
ended_of lines = held lines.ended

-- what is written of the next one
abbrev pub line_of : Lines → Text
line_of lines = string_bytes lines.line

-- nothing of them is missing
abbrev pub is_whole : Lines → Bool
is_whole lines = lines.is_whole && lines.ended.is_whole

-- the line grew by these bytes, if it is known which, or something is missing
abbrev pub Writes : Lines → Option Text → Lines → Type 0
Writes old more new = is_whole new ≡ true
    → (is_whole old ≡ true) × (ended_of new ≡ ended_of old) × IfSome more (λ m. line_of new ≡ line_of old ++ m)

-- the line stands after the others as it is shown, or something is missing; the next one is empty
abbrev pub Ends : Lines → Lines → Type 0
Ends old new = (line_of new ≡ [])
    × (is_whole new ≡ true → (is_whole old ≡ true) × (ended_of new ≡ ended_of old ++ shown_line (line_of old)))
