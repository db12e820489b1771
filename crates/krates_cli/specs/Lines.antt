-- The lines that are written.
use Rattle.std.specs.Prelude.{◌≡◌, List, ◌++◌, codes}
use Rattle.std.specs.List.{flat_map}
use Rattle.krates_cm.specs.Document.{Text, id_view}
use Rattle.krates_cm.specs.declared.package.Package.{Package}
use Rattle.krates_cm.specs.declared.package_id.PackageId.{PackageId}
use Rattle.krates_cli.specs.declared.listed.Listed.{Listed}

-- a mark, the text of the id as the document has it, and a newline
abbrev pub id_line : Text → PackageId → Text
id_line mark id = mark ++ (id_view id ++ codes "\n")

-- that of a package
abbrev pub line : Text → Package → Text
line mark pkg = id_line mark pkg.id

-- a line for each package that is kept
abbrev pub kept_lines : List Package → Text
kept_lines packages = flat_map (line (codes "+ ")) packages

-- a line for each package that is reported
abbrev pub reported_lines : List Package → Text
reported_lines packages = flat_map (line (codes "- ")) packages

-- first the kept packages, then the others, which are reported
abbrev pub lines_of : List Package → List Package → Text
lines_of kept others = kept_lines kept ++ reported_lines others

-- ---- of what a build holds instead of packages

-- it is what is listed of the package
abbrev pub IsListedOf : Package → Listed → Type 0
IsListedOf pkg listed = listed.id ≡ pkg.id

-- a line for each of them
abbrev pub listed_lines : List Listed → Text
listed_lines listed = flat_map (λ (l : Listed). id_line (codes "+ ") l.id) listed
