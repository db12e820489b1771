-- Package ids: which text is which id, and how ids compare (Cargo Book, "Package ID Specifications").
use Rattle.std.specs.Prelude.{◌≡◌, Bool, true, false, ◌==◌, ◌⊎◌, [], ◌∷◌, ◌++◌, codes}
use Rattle.std.specs.Hash.{HashWrites, str as fed_text}
use Rattle.std.specs.List.{starts_with}
use Rattle.std.specs.declared.cmp.Ordering.{Ordering}
use Rattle.std.specs.Ordering.{nat_cmp, on, then_cmp, eq_of_both}
use Rattle.std.specs.Cmp.Lexicographic.{slice_cmp, pointwise}
use Rattle.percent_encoding.specs.Percent.{percent_decode}
use Rattle.krates_cm.specs.Document.{Text}
use Rattle.krates_text.specs.Cuts.{Lacks, Has, FirstCut, LastCut}
use Rattle.krates_ids.specs.Escapes.{AreEscapes}
use Rattle.krates_ids.specs.Separators.{blank, hash_sign, percent_sign, opening, closing, slash, question_mark, at_sign}

-- a package id: its text, whose query is decoded, and the three parts that the text gives
pub record Identity : Type 0 where
  pub text : Text
  pub name : Text
  pub version : Text
  pub source : Text
  pub is_opaque : Bool  -- whether the text as it was written has a space

-- the empty id: an empty text with three empty parts
abbrev pub empty_identity : Identity
empty_identity = record { text = []; name = []; version = []; source = []; is_opaque = false }

-- ---- the opaque form: NAME " " VERSION " (" SOURCE and an end

-- from its last '#' on the text ends in ')': a commit and the closing parenthesis
pub record EndsFromHash (t end : Text) : Type 0 where
  pub before : Text
  pub commit : Text
  pub cut : LastCut hash_sign t before (commit ++ closing ∷ [])
  pub is : end ≡ hash_sign ∷ (commit ++ closing ∷ [])

-- what follows the source: ")" where the text has no '#', else all from its last '#' on
abbrev pub IsOpaqueEnd : Text → Text → Type 0
IsOpaqueEnd t end = (Lacks hash_sign t × (end ≡ closing ∷ [])) ⊎ EndsFromHash t end

-- a text with spaces: name and version end at the first two of them, and the source ends where the end begins
pub record IsOpaqueForm (t name version source : Text) : Type 0 where
  pub end : Text
  pub is : t ≡ name ++ blank ∷ (version ++ blank ∷ opening ∷ (source ++ end))
  pub name_whole : Lacks blank name
  pub version_whole : Lacks blank version
  pub ends : IsOpaqueEnd t end

-- ---- the stable form: LEFT "#" FRAGMENT

-- how the source of a package from a git repository begins
abbrev pub git : Text
git = codes "git+"

-- the left part begins with "git+"
abbrev pub is_git : Text → Bool
is_git left = starts_with ◌==◌ left git

-- the name in the last piece of a left part: the piece, and for git the part before its last '?', where it has one
abbrev pub IsNameOfPiece : Bool → Text → Text → Type 0
IsNameOfPiece false piece name = name ≡ piece
IsNameOfPiece true piece name = (Lacks question_mark piece × (name ≡ piece)) ⊎ ((query : Text) × LastCut question_mark piece name query)

-- the name is in the left part, after its last '/'
pub record NameInLeft (left name : Text) : Type 0 where
  pub before : Text
  pub piece : Text
  pub cut : LastCut slash left before piece
  pub name_is : IsNameOfPiece (is_git left) piece name

-- a fragment that is the version alone, with a left part that has the name
pub record IsVersionAlone (left fragment name version : Text) : Type 0 where
  pub version_is : version ≡ fragment
  pub no_at : Lacks at_sign fragment
  pub no_slash : Lacks slash fragment
  pub no_query : Lacks question_mark fragment
  pub name_in_left : NameInLeft left name

-- a text without a space, cut at its last '#': the fragment is NAME "@" VERSION, or the version alone
pub record IsStableForm (t left fragment name version : Text) : Type 0 where
  pub no_blank : Lacks blank t
  pub cut : LastCut hash_sign t left fragment
  pub parts : FirstCut at_sign fragment name version ⊎ IsVersionAlone left fragment name version

-- the query of a git source: what follows the last '?' of the left part's last piece
pub record IsGitQuery (left front query : Text) : Type 0 where
  pub git : is_git left ≡ true
  pub cut : LastCut question_mark left front query
  pub in_last_piece : Lacks slash query

-- the source that a left part gives: the left part as it is written, except that for git its query is decoded, in one pass
pub data IsSource (left source : Text) : Type 0 where
  as_written : ((front query : Text) → IsGitQuery left front query → ⊥) → source ≡ left → IsSource left source
  decoded : (front query : Text) → IsGitQuery left front query → AreEscapes query → source ≡ front ++ question_mark ∷ percent_decode query → IsSource left source

-- ---- reading

-- the text is of the opaque form, with these parts; nothing in it is decoded
pub record ReadsOpaque (t : Text) (id : Identity) : Type 0 where
  pub form : IsOpaqueForm t id.name id.version id.source
  pub text_is : id.text ≡ t
  pub marked : id.is_opaque ≡ true

-- the text is of the stable form, with this name and version; the source, and so the id's text, has its query decoded
pub record ReadsStable (t : Text) (id : Identity) : Type 0 where
  pub left : Text
  pub fragment : Text
  pub form : IsStableForm t left fragment id.name id.version
  pub source_is : IsSource left id.source
  pub text_is : id.text ≡ id.source ++ hash_sign ∷ fragment
  pub marked : id.is_opaque ≡ false

-- the text is read as the id
abbrev pub Reads : Text → Identity → Type 0
Reads t id = ReadsOpaque t id ⊎ ReadsStable t id

-- the query of a text of the stable form with a git source
pub record HasGitQuery (t query : Text) : Type 0 where
  pub left : Text
  pub fragment : Text
  pub name : Text
  pub version : Text
  pub front : Text
  pub form : IsStableForm t left fragment name version
  pub git_query : IsGitQuery left front query

-- a text that reads, and has an escape to be decoded
pub record NeedsDecoding (t : Text) : Type 0 where
  pub query : Text
  pub git_query : HasGitQuery t query
  pub has_escape : Has percent_sign query
  pub good : AreEscapes query

-- why a text isn't an id
pub data Fault : Type 0 where
  no_opaque_form : Fault
  no_stable_form : Fault
  bad_escape : Fault

-- the fault is true of the text: it has a space and is not of the opaque form; it has none and is not of the stable form;
-- or it is of the stable form, and a '%' in the query of its git source doesn't begin an escape
abbrev pub IsFault : Text → Fault → Type 0
IsFault t no_opaque_form = Has blank t × ((name version source : Text) → IsOpaqueForm t name version source → ⊥)
IsFault t no_stable_form = Lacks blank t × ((left fragment name version : Text) → IsStableForm t left fragment name version → ⊥)
IsFault t bad_escape = (query : Text) × HasGitQuery t query × (AreEscapes query → ⊥)

-- ---- comparing: by name, then version text, then source, as bytes; the text itself does not count

-- the ids are the same: equal in all three parts
pub record IsSameId (a b : Identity) : Type 0 where
  pub name : a.name ≡ b.name
  pub version : a.version ≡ b.version
  pub source : a.source ≡ b.source

-- whether they are the same
abbrev pub same_id : Identity → Identity → Bool
same_id = eq_of_both (on (λ id. id.name) (pointwise ◌==◌)) (eq_of_both (on (λ id. id.version) (pointwise ◌==◌)) (on (λ id. id.source) (pointwise ◌==◌)))

-- the order by three texts of each: by the first, then the second, then the third
abbrev pub by_texts : {A : Type 0} → (first second third : A → Text) → A → A → Ordering
by_texts first second third = then_cmp (on first (slice_cmp nat_cmp)) (then_cmp (on second (slice_cmp nat_cmp)) (on third (slice_cmp nat_cmp)))

-- the order of ids
abbrev pub id_cmp : Identity → Identity → Ordering
id_cmp = by_texts (λ id. id.name) (λ id. id.version) (λ id. id.source)

-- what an id writes to a hasher
abbrev pub id_hash_input : Identity → HashWrites
id_hash_input id = fed_text id.name ++ fed_text id.version ++ fed_text id.source
