-- What the filter that makes a line for each package holds.
use Rattle.std.specs.Prelude.{◌≡◌, Bool, true, ◌++◌, codes, string_bytes}
use Rattle.krates_cm.specs.Document.{Text}
use Rattle.krates_cm.specs.declared.package.Package.{Package}
use Rattle.krates_cli.specs.Lines.{line}
use Rattle.krates_cli.specs.declared.reported.Reported.{Reported}

-- the lines so far
abbrev pub lines_in : Reported → Text
lines_in r = string_bytes r.lines

-- whether there was memory for each of them
abbrev pub is_whole : Reported → Bool
is_whole r = r.is_whole

-- where there was memory for all afterwards, there was before, and the package's line is added
abbrev pub Reports : Reported → Package → Reported → Type 0
Reports old pkg new = is_whole new ≡ true → (is_whole old ≡ true) × (lines_in new ≡ lines_in old ++ line (codes "- ") pkg)
