-- What a package states about its licence.
use Rattle.std.specs.Prelude.{[], Option, Some, None, map, option_map}
use Rattle.krates_cm.specs.Document.{Text, text_view}
use Rattle.krates_cm.specs.declared.package.Package.{Package}
use Rattle.krates_queries.specs.KrateNodes.{Match, match_view}
use Rattle.krates_answers.specs.Grouped.{Group}
use Rattle.krates_answers.specs.declared.licences.Licence.{Licence}

-- the text of the second, where there is no first; nothing without both
abbrev pub first_text : Option Text → Option Text → Text
first_text (Some text) other = text
first_text None (Some text) = text
first_text None None = []

-- its expression, or else the path of its licence file, or else nothing
abbrev pub stated_licence : Package → Text
stated_licence pkg = first_text (option_map text_view pkg.license) (option_map text_view pkg.license_file)

-- a licence with its crates, as clauses see it
abbrev pub licence_view : Licence → Group (Match Package)
licence_view l = record { key = l.text.now; items = map match_view l.krates.items }
