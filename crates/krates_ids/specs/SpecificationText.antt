-- The text of a package specification, as cargo prints it (Cargo Book, "Package ID Specifications").
use Rattle.std.specs.Prelude.{ℕ, [], ◌∷◌, ◌++◌, ◌==◌, Option, Some, None, bytes_eq, if◌then◌else◌}
use Rattle.std.specs.List.{list_any}
use Rattle.semver.specs.Identifiers.{parts_text}
use Rattle.krates_cm.specs.Document.{Text, VersionModel}
use Rattle.krates_ids.specs.PackageSpecification.{Specification}
use Rattle.krates_ids.specs.Separators.{hash_sign, slash, at_sign}

-- what follows the last '/' of a text, or all of it where it has none
abbrev pub after_last_slash : Text → Text
after_last_slash [] = []
after_last_slash (b ∷ rest) = if list_any (λ c. c == slash) (b ∷ rest) then after_last_slash rest else b ∷ rest

-- a mark and the version, or nothing where no version is given
abbrev pub marked_version : ℕ → Option VersionModel → Text
marked_version mark None = []
marked_version mark (Some version) = mark ∷ parts_text version

-- NAME or NAME@VERSION
abbrev pub named_text : Text → Option VersionModel → Text
named_text name version = name ++ marked_version at_sign version

-- Without a url NAME or NAME@VERSION. With a url URL#NAME or URL#NAME@VERSION, but URL or URL#VERSION where NAME is what follows its last '/'
abbrev pub text_of_parts : Text → Option VersionModel → Option Text → Text
text_of_parts name version None = named_text name version
text_of_parts name version (Some url) =
    if bytes_eq (after_last_slash url) name then url ++ marked_version hash_sign version else url ++ hash_sign ∷ named_text name version

-- the text that a specification is printed as
abbrev pub spec_text : Specification → Text
spec_text spec = text_of_parts spec.name spec.version spec.url
