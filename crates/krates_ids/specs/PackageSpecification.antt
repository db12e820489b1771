-- Package specifications (Cargo Book, "Package ID Specifications"): which text is which specification, why a text isn't one,
-- and which packages a specification fits.
use Rattle.std.specs.Prelude.{◌≡◌, ℕ, List, [], ◌∷◌, ◌++◌, ◌⊎◌, ◌==◌, ◌||◌, Bool, true, false, not, if◌then◌else◌, Option, Some, None, IfSome, Result, Ok, Err, length, codes, option_map, string_bytes}
use Rattle.std.specs.Char.{is_ascii_alphabetic, is_ascii_alphanumeric}
use Rattle.std.specs.List.{list_all, ends_with}
use Rattle.std.specs.Option.{is_none}
use Rattle.std.specs.Str.Iter.{HasSubslice}
use Rattle.semver.specs.Identifiers.{parts_of}
use Rattle.krates_cm.specs.Document.{Text, VersionModel, PackageModel}
use Rattle.krates_cm.specs.Names.{version_named}
use Rattle.krates_text.specs.Cuts.{Lacks, Has, FirstCut, LastCut}
use Rattle.krates_ids.specs.declared.pkgspec.PkgSpec.{PkgSpec}
use Rattle.krates_ids.specs.Separators.{hash_sign, plus_sign, minus_sign, slash, colon, question_mark, at_sign, underscore}

-- a package specification: a name, perhaps a version, and perhaps the url of a source
pub record Specification : Type 0 where
  pub name : Text
  pub version : Option VersionModel
  pub url : Option Text

-- the specification of these parts
abbrev pub specification : Text → Option VersionModel → Option Text → Specification
specification name version url = record { name = name; version = version; url = url }

-- as clauses see it: the bytes of its name and url, and the parts of its version
abbrev pub spec_view : PkgSpec → Specification
spec_view s = specification (string_bytes s.name) (option_map parts_of s.version) (option_map string_bytes s.url)

-- what a text gives: a specification, or the text of its refusal
abbrev pub Outcome : Type 0
Outcome = Result Specification Text

-- ---- the refusals

abbrev pub ends_with_hash : Text
ends_with_hash = codes "package spec cannot end with '#'"

abbrev pub ends_with_slash : Text
ends_with_slash = codes "url ends with /"

abbrev pub missing_scheme : Text
missing_scheme = codes "missing url scheme"

abbrev pub missing_path : Text
missing_path = codes "path required for urls"

abbrev pub ends_with_separator : Text
ends_with_separator = codes "package spec cannot end with ':'"

abbrev pub bad_name : Text
bad_name = codes "found an invalid character for the package name"

abbrev pub bad_version : Text
bad_version = codes "failed to parse version"

-- ---- names and versions

-- a name has ASCII letters, digits, '-' and '_'
abbrev pub is_name_byte : ℕ → Bool
is_name_byte b = is_ascii_alphanumeric b || b == minus_sign || b == underscore

-- whether a text is a name; it may be empty
abbrev pub is_name : Text → Bool
is_name t = list_all is_name_byte t

-- whether the first character of a text is an ASCII letter
abbrev pub begins_with_letter : Text → Bool
begins_with_letter [] = false
begins_with_letter (b ∷ rest) = is_ascii_alphabetic b

-- ---- what may be wrong

-- tests, each with the text of its refusal
abbrev pub Checks : Type 0
Checks = List (Bool × Text)

-- the refusal of the first test that is true, or else the value
abbrev pub checked : {A : Type 0} → Checks → A → Result A Text
checked [] a = Ok a
checked ((wrong, refusal) ∷ more) a = if wrong then Err refusal else checked more a

-- this is the value that a text has, or the refusal of the first of these checks that is true
pub record GivesChecked {A : Type 0} (IsRead : Checks → A → Type 0) (r : Result A Text) : Type 0 where
  pub checks : Checks
  pub value : A
  pub is_read : IsRead checks value
  pub is : r ≡ checked checks value

abbrev pub name_check : Text → Bool × Text
name_check name = (not (is_name name), bad_name)

abbrev pub version_check : Text → Bool × Text
version_check version = (is_none (version_named version), bad_version)

-- ---- fragments

-- the text is x, a ':' or '@', and y, and this is the first of them
pub record SplitAt (t x y : Text) : Type 0 where
  pub separator : ℕ
  pub is_separator : (separator ≡ colon) ⊎ (separator ≡ at_sign)
  pub is : t ≡ x ++ separator ∷ y
  pub no_colon : Lacks colon x
  pub no_at : Lacks at_sign x

-- the text has neither ':' nor '@'
pub record IsUnsplit (t : Text) : Type 0 where
  pub no_colon : Lacks colon t
  pub no_at : Lacks at_sign t

-- a name and a version on both sides of a separator: something must follow it, and the name is checked first
abbrev pub sides_checks : Text → Text → Checks
sides_checks name version = (length version == 0, ends_with_separator) ∷ name_check name ∷ version_check version ∷ []

-- The specification of a fragment. One that isn't split is a name where there is no url, or where it begins with a letter; else it is
-- the version of the package that the last piece of the url names.
pub data IsFragment (url piece : Option Text) (f : Text) : Checks → Specification → Type 0 where
  is_split : (name version : Text) → SplitAt f name version
      → IsFragment url piece f (sides_checks name version) (specification name (version_named version) url)
  is_name_alone : IsUnsplit f → (piece ≡ None) ⊎ (begins_with_letter f ≡ true) → IsFragment url piece f (name_check f ∷ []) (specification f None url)
  is_version_alone : (name : Text) → IsUnsplit f → piece ≡ Some name → begins_with_letter f ≡ false
      → IsFragment url piece f (version_check f ∷ name_check name ∷ []) (specification name (version_named f) url)

-- ---- urls

-- what ends the scheme of a url
abbrev pub scheme_end : Text
scheme_end = codes "://"

-- the url has a scheme
abbrev pub HasScheme : Text → Type 0
HasScheme t = HasSubslice t scheme_end

-- the last piece of a url, after its last '/'; a '/' that ends the last "://" doesn't end a path
pub data IsUrl (url : Text) : Checks → Text → Type 0 where
  with_scheme : (before piece : Text) → HasScheme url → LastCut slash url before piece
      → IsUrl url ((ends_with ◌==◌ url (codes "/"), ends_with_slash) ∷ (ends_with ◌==◌ before (codes ":/"), missing_path) ∷ []) piece
  without_scheme : (HasScheme url → ⊥) → IsUrl url ((ends_with ◌==◌ url (codes "/"), ends_with_slash) ∷ (true, missing_scheme) ∷ []) []

-- A text with a url is cut at its first '#': something must follow it, and then the url is checked first. Without a fragment the
-- last piece of the url is the name.
pub data IsLocated (t : Text) : Checks → Specification → Type 0 where
  url_alone : (checks : Checks) (piece : Text) → Lacks hash_sign t → IsUrl t checks piece
      → IsLocated t (checks ++ name_check piece ∷ []) (specification piece None (Some t))
  with_fragment : (url fragment piece : Text) (checks more : Checks) (spec : Specification) → FirstCut hash_sign t url fragment → IsUrl url checks piece
      → IsFragment (Some url) (Some piece) fragment more spec → IsLocated t ((length fragment == 0, ends_with_hash) ∷ (checks ++ more)) spec

-- ---- whole texts

abbrev pub default_scheme : Text
default_scheme = codes "cargo://"

-- a text without '/' is a fragment only; any other has a url, whose scheme is cargo's where the text has none
pub data IsText (t : Text) (checks : Checks) (spec : Specification) : Type 0 where
  a_fragment : Lacks slash t → IsFragment None None t checks spec → IsText t checks spec
  a_url : Has slash t → HasScheme t → IsLocated t checks spec → IsText t checks spec
  a_short_url : Has slash t → (HasScheme t → ⊥) → IsLocated (default_scheme ++ t) checks spec → IsText t checks spec

-- what a text gives
abbrev pub Gives : Text → Outcome → Type 0
Gives t = GivesChecked (IsText t)

-- the text is a specification with these parts
abbrev pub IsSpec : Text → Text → Option VersionModel → Option Text → Type 0
IsSpec t name version url = Gives t (Ok (specification name version url))

-- the text isn't a specification, and this is the text of its refusal
abbrev pub IsSpecFault : Text → Text → Type 0
IsSpecFault t refusal = Gives t (Err refusal)

-- ---- which packages a specification fits

-- the part before the query of a source, or else before its fragment
abbrev pub IsBeforeQuery : Text → Text → Type 0
IsBeforeQuery source front = ((query : Text) × FirstCut question_mark source front query)
    ⊎ (Lacks question_mark source × (((fragment : Text) × FirstCut hash_sign source front fragment) ⊎ (Lacks hash_sign source × (front ≡ source))))

-- the url of a source: from after the source's first '+', or from its start where it has none, to the query or the fragment.
-- There is none where that end comes before the first '+'
pub record IsUrlOf (source url : Text) : Type 0 where
  pub front : Text
  pub before_query : IsBeforeQuery source front
  pub is : (Lacks plus_sign source × (url ≡ front)) ⊎ ((kind : Text) × FirstCut plus_sign front kind url)

-- the specification fits the package: the names are equal, the versions where one is given are equal in all five parts, and
-- a url that is given is that of the package's source, where it has one
pub record SpecFits (spec : Specification) (pkg : PackageModel) : Type 0 where
  pub name : spec.name ≡ pkg.name
  pub version : IfSome spec.version (λ version. version ≡ pkg.version)
  pub url : IfSome spec.url (λ url. IfSome pkg.source (λ source. IsUrlOf source url))
