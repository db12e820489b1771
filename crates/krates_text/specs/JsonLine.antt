-- The line of a program's output that holds a JSON object.
use Rattle.std.specs.Prelude.{◌==◌, ℕ, Bool, List, Option, slice_index}
use Rattle.std.specs.List.{find}
use Rattle.std.specs.Str.Lines.{lines}

-- the line begins with `{`
abbrev pub begins_object : List ℕ → Bool
begins_object line = slice_index line 0 == 123

-- the first line that begins a JSON object
abbrev pub json_line : List ℕ → Option (List ℕ)
json_line output = find begins_object (lines output)
