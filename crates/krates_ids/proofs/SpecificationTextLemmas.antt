-- A specification that was read is printed as a text that reads as it.
use Rattle.std.proofs.Common.{◌≡◌, ℕ, [], ◌∷◌, ◌++◌, Bool, true, false, length, refl, sym, ap, ◌∙◌, subst, inl, inr, ⊎_elim, append-nil, append_assoc}
use Rattle.std.specs.Prelude.{◌⊎◌, ◌==◌, not, Option, Some, None, Ok, bytes_eq, if◌then◌else◌}
use Rattle.std.specs.List.{AllByRecursion, list_any}
use Rattle.std.specs.Option.{is_none}
use Rattle.std.specs.Cmp.Lexicographic.{bytes_decides}
use Rattle.std.proofs.lemmas.Bool.{false≢true, ne_eqb, eqb-false, not-false}
use Rattle.std.proofs.Math.Bool.{or-true}
use Rattle.semver.specs.Grammar.{IsValid}
use Rattle.semver.specs.Identifiers.{parts_text}
use Rattle.krates_cm.specs.Document.{Text, VersionModel}
use Rattle.krates_cm.specs.Names.{version_named}
use Rattle.krates_text.specs.Cuts.{Lacks, FirstCut, LastCut}
use Rattle.krates_ids.specs.PackageSpecification.{Specification, specification, Checks, checked, is_name_byte, is_name, begins_with_letter, name_check, version_check, sides_checks, SplitAt, IsUnsplit, IsFragment, is_split, is_name_alone, is_version_alone, HasScheme, IsUrl, with_scheme, without_scheme, IsLocated, url_alone, with_fragment, IsText, a_fragment, a_url, a_short_url, default_scheme, Gives, IsSpec}
use Rattle.krates_ids.specs.Separators.{hash_sign, slash, colon, at_sign}
use Rattle.krates_ids.specs.SpecificationText.{after_last_slash, marked_version, named_text, text_of_parts, spec_text}
use Rattle.krates_ids.proofs.SpecificationLemmas.{Ok≢Err, HasScheme-slash}
use Rattle.krates_ids.proofs.SpecificationLawLemmas.{IsSpec-once}
use Rattle.krates_ids.proofs.VersionTextLemmas.{valid_named, named_valid, lacks_refused, is_version_byte, version_bytes, version_first, version_some, first_some, middle_some}

-- ---- what follows the last '/'

abbrev has_slash : Text → Bool
has_slash t = list_any (λ c. c == slash) t

none_there : (t : Text) → Lacks slash t → has_slash t ≡ false
none_there [] h = refl
none_there (b ∷ t) h = rw (ne_eqb b slash h.0, none_there t h.1) refl

one_there : (x y : Text) → has_slash (x ++ slash ∷ y) ≡ true
one_there [] y = refl
one_there (b ∷ x) y = rw (one_there x y) (or-true (b == slash))

pub after_last_slash-lacks : (t : Text) → Lacks slash t → after_last_slash t ≡ t
after_last_slash-lacks [] h = refl
after_last_slash-lacks (b ∷ t) h = rw (none_there (b ∷ t) h) refl

after_last_slash-at : (x y : Text) → Lacks slash y → after_last_slash (x ++ slash ∷ y) ≡ y
after_last_slash-at [] y h = after_last_slash-lacks y h
after_last_slash-at (b ∷ x) y h = rw (one_there (b ∷ x) y) (after_last_slash-at x y h)

-- what follows it is what the last cut leaves
pub after_last_slash-cut : (t x y : Text) → LastCut slash t x y → after_last_slash t ≡ y
after_last_slash-cut t x y cut = rw cut.is (after_last_slash-at x y cut.lacks)

-- ---- checks that all pass

abbrev Pass : Checks → Type 0
Pass cs = AllByRecursion (λ c. c.0 ≡ false) cs

read_passes : {A : Type 0} (cs : Checks) (a v : A) → Ok v ≡ checked cs a → (v ≡ a) × Pass cs
read_passes [] a v e = (cc, tt)
read_passes ((true, u) ∷ cs) a v e = absurd (Ok≢Err e)
read_passes ((false, u) ∷ cs) a v e =
    let rest = read_passes cs a v e in
    (rest.0, (refl, rest.1))

passed : {A : Type 0} (cs : Checks) (a : A) → Pass cs → Ok a ≡ checked cs a
passed [] a h = refl
passed ((true, u) ∷ cs) a h = absurd (false≢true (sym h.0))
passed ((false, u) ∷ cs) a h = passed cs a h.1

both_pass : (cs ds : Checks) → Pass cs → Pass ds → Pass (cs ++ ds)
both_pass [] ds h k = k
both_pass (c ∷ cs) ds h k = (h.0, both_pass cs ds h.1 k)

pass_apart : (cs ds : Checks) → Pass (cs ++ ds) → Pass cs × Pass ds
pass_apart [] ds h = (tt, h)
pass_apart (c ∷ cs) ds h =
    let rest = pass_apart cs ds h.1 in
    ((h.0, rest.0), rest.1)

-- ---- what a specification that was read has

-- the version is one that a text names; where there is none, the name can be distinguished from a version
abbrev IsTold : Option Text → Text → Option VersionModel → Type 0
IsTold piece name (Some v) = IsValid v
IsTold None name None = Unit {0}
IsTold (Some piece) name None = (piece ≡ name) ⊎ (begins_with_letter name ≡ true)

-- a url that is one, and a name and a version that can follow it
record IsPlaced (url name : Text) (version : Option VersionModel) : Type 0 where
  piece : Text
  checks : Checks
  lacks : Lacks hash_sign url
  is_url : IsUrl url checks piece
  pass : Pass checks
  named : is_name name ≡ true
  told : IsTold (Some piece) name version

-- a specification that some text is
abbrev IsPrintable : Text → Option VersionModel → Option Text → Type 0
IsPrintable name version None = (is_name name ≡ true) × IsTold None name version
IsPrintable name version (Some url) = IsPlaced url name version

none_some : {A : Type 0} {a : A} → None ≡ Some a → ⊥
none_some e = cc

told_version : (piece : Option Text) (name t : Text) (read : Option VersionModel) → version_named t ≡ read → is_none read ≡ false → IsTold piece name read
told_version piece name t None e some = absurd (false≢true (sym some))
told_version piece name t (Some v) e some = valid_named t v e

told_alone : (piece : Option Text) (name : Text) → (piece ≡ None) ⊎ (begins_with_letter name ≡ true) → IsTold piece name None
told_alone None name e = tt
told_alone (Some piece) name (inl none) = absurd (none_some (sym none))
told_alone (Some piece) name (inr letter) = inr letter

-- what a fragment gives
abbrev FragmentGives : Option Text → Option Text → Specification → Type 0
FragmentGives url piece s = (s.url ≡ url) × ((is_name s.name ≡ true) × IsTold piece s.name s.version)

fragment_gives : (url piece : Option Text) (f : Text) (cs : Checks) (s : Specification) → IsFragment url piece f cs s → Pass cs → FragmentGives url piece s
fragment_gives url piece f cs s (is_split name version split) h =
    (refl, (not-false (is_name name) h.1.0, told_version piece name version (version_named version) refl h.1.1.0))
fragment_gives url piece f cs s (is_name_alone unsplit e) h = (refl, (not-false (is_name f) h.0, told_alone piece f e))
fragment_gives url piece f cs s (is_version_alone name unsplit some plain) h =
    (refl, (not-false (is_name name) h.1.0, told_version piece name f (version_named f) refl h.0))

printable_at : (name : Text) (version : Option VersionModel) (url given : Option Text) → url ≡ given → IsPrintable name version given → IsPrintable name version url
printable_at name version url given e h = subst (λ u. IsPrintable name version u) (sym e) h

located_printable : (t : Text) (cs : Checks) (s : Specification) → IsLocated t cs s → Pass cs → IsPrintable s.name s.version s.url
located_printable t cs s (url_alone checks piece none is_url) h =
    let parts = pass_apart checks (name_check piece ∷ []) h in
    record {
      piece = piece;
      checks = checks;
      lacks = none;
      is_url = is_url;
      pass = parts.0;
      named = not-false (is_name piece) parts.1.0;
      told = inl refl;
    }
located_printable t cs s (with_fragment url fragment piece checks more spec cut is_url is_fragment) h =
    let parts = pass_apart checks more h.1 in
    let gives = fragment_gives (Some url) (Some piece) fragment more s is_fragment parts.1 in
    printable_at s.name s.version s.url (Some url) gives.0 (record {
      piece = piece;
      checks = checks;
      lacks = cut.lacks;
      is_url = is_url;
      pass = parts.0;
      named = gives.1.0;
      told = gives.1.1;
    })

text_printable : (t : Text) (cs : Checks) (s : Specification) → IsText t cs s → Pass cs → IsPrintable s.name s.version s.url
text_printable t cs s (a_fragment none is_fragment) h =
    let gives = fragment_gives None None t cs s is_fragment h in
    printable_at s.name s.version s.url None gives.0 gives.1
text_printable t cs s (a_url has scheme located) h = located_printable t cs s located h
text_printable t cs s (a_short_url has none located) h = located_printable (default_scheme ++ t) cs s located h

-- ---- what is printed, read again

lacks_both : (c : ℕ) (x y : Text) → Lacks c x → Lacks c y → Lacks c (x ++ y)
lacks_both c [] y h k = k
lacks_both c (b ∷ x) y h k = (h.0, lacks_both c x y h.1 k)

name_lacks : (c : ℕ) (name : Text) → is_name name ≡ true → is_name_byte c ≡ false → Lacks c name
name_lacks c name h refused = lacks_refused is_name_byte c name h refused

version_lacks : (c : ℕ) (v : VersionModel) → IsValid v → is_version_byte c ≡ false → Lacks c (parts_text v)
version_lacks c v h refused = lacks_refused is_version_byte c (parts_text v) (version_bytes v h) refused

name_passes : (name : Text) → is_name name ≡ true → not (is_name name) ≡ false
name_passes name h = ap not h

version_passes : (v : VersionModel) → IsValid v → is_none (version_named (parts_text v)) ≡ false
version_passes v h = ap is_none (named_valid v h)

-- a fragment that gives the specification
abbrev Fragment : Option Text → Option Text → Text → Specification → Type 0
Fragment url piece f s = (cs : Checks) × (IsFragment url piece f cs s × Pass cs)

unsplit_name : (name : Text) → is_name name ≡ true → IsUnsplit name
unsplit_name name h = record { no_colon = name_lacks colon name h refl; no_at = name_lacks at_sign name h refl }

name_again : (url piece : Option Text) (name : Text) → is_name name ≡ true → (piece ≡ None) ⊎ (begins_with_letter name ≡ true) → Fragment url piece name (specification name None url)
name_again url piece name h e = (name_check name ∷ [], (is_name_alone (unsplit_name name h) e, (name_passes name h, tt)))

split_again : (url piece : Option Text) (name : Text) (v : VersionModel) → is_name name ≡ true → IsValid v → Fragment url piece (named_text name (Some v)) (specification name (Some v) url)
split_again url piece name v h valid =
    let split : SplitAt (named_text name (Some v)) name (parts_text v) = record {
      separator = at_sign;
      is_separator = inr refl;
      is = refl;
      no_colon = name_lacks colon name h refl;
      no_at = name_lacks at_sign name h refl;
    } in
    let read = subst (λ (w : Option VersionModel). IsFragment url piece (named_text name (Some v)) (sides_checks name (parts_text v)) (specification name w url)) (named_valid v valid) (is_split name (parts_text v) split) in
    (sides_checks name (parts_text v), (read, (version_some v, (name_passes name h, (version_passes v valid, tt)))))

version_again : (url name : Text) (v : VersionModel) → is_name name ≡ true → IsValid v → Fragment (Some url) (Some name) (parts_text v) (specification name (Some v) (Some url))
version_again url name v h valid =
    let unsplit : IsUnsplit (parts_text v) = record { no_colon = version_lacks colon v valid refl; no_at = version_lacks at_sign v valid refl } in
    let checks = version_check (parts_text v) ∷ name_check name ∷ [] in
    let read = subst (λ (w : Option VersionModel). IsFragment (Some url) (Some name) (parts_text v) checks (specification name w (Some url))) (named_valid v valid) (is_version_alone name unsplit refl (version_first v valid)) in
    (checks, (read, (version_passes v valid, (name_passes name h, tt))))

read_as : (t : Text) (cs : Checks) (s : Specification) → IsText t cs s → Pass cs → Gives t (Ok s)
read_as t cs s read h = record { checks = cs; value = s; is_read = read; is = passed cs s h }

no_slash : (name : Text) (v : VersionModel) → is_name name ≡ true → IsValid v → Lacks slash (named_text name (Some v))
no_slash name v h valid =
    lacks_both slash name (at_sign ∷ parts_text v) (name_lacks slash name h refl) (eqb-false at_sign slash refl, version_lacks slash v valid refl)

alone_again : (name : Text) (version : Option VersionModel) → is_name name ≡ true → IsTold None name version → Gives (named_text name version) (Ok (specification name version None))
alone_again name None h told =
    let f = name_again None None name h (inl refl) in
    let read = read_as name f.0 (specification name None None) (a_fragment (name_lacks slash name h refl) f.1.0) f.1.1 in
    subst (λ (t : Text). Gives t (Ok (specification name None None))) (sym (append-nil name)) read
alone_again name (Some v) h told =
    let f = split_again None None name v h told in
    read_as (named_text name (Some v)) f.0 (specification name (Some v) None) (a_fragment (no_slash name v h told) f.1.0) f.1.1

-- the url has a scheme, and ends with its last piece
url_has : (url : Text) (cs : Checks) (piece : Text) → IsUrl url cs piece → Pass cs → HasScheme url × (after_last_slash url ≡ piece)
url_has url cs piece (with_scheme before last scheme cut) h = (scheme, after_last_slash-cut url before last cut)
url_has url cs piece (without_scheme none) h = absurd (false≢true (sym h.1.0))

scheme_before : (x y : Text) → HasScheme x → HasScheme (x ++ y)
scheme_before x y h =
    (h.0, h.1 ++ y, ap (λ (z : Text). z ++ y) h.2 ∙ append_assoc h.0 (colon ∷ slash ∷ slash ∷ h.1) y)

with_url : (t : Text) (cs : Checks) (s : Specification) → HasScheme t → IsLocated t cs s → Pass cs → Gives t (Ok s)
with_url t cs s scheme located h = read_as t cs s (a_url (λ none. HasScheme-slash t none scheme) scheme located) h

-- a fragment after a url
located_again : (url f : Text) (name : Text) (version : Option VersionModel) (p : IsPlaced url name version) → (length f == 0) ≡ false → Fragment (Some url) (Some p.piece) f (specification name version (Some url)) → Gives (url ++ hash_sign ∷ f) (Ok (specification name version (Some url)))
located_again url f name version p some fragment =
    let cut : FirstCut hash_sign (url ++ hash_sign ∷ f) url f = record { is = refl; lacks = p.lacks } in
    with_url (url ++ hash_sign ∷ f) _ (specification name version (Some url)) (scheme_before url (hash_sign ∷ f) (url_has url p.checks p.piece p.is_url p.pass).0)
    (with_fragment url f p.piece p.checks fragment.0 (specification name version (Some url)) cut p.is_url fragment.1.0)
    (some, both_pass p.checks fragment.0 p.pass fragment.1.1)

letter_some : (name : Text) → begins_with_letter name ≡ true → (length name == 0) ≡ false
letter_some [] h = absurd (false≢true h)
letter_some (b ∷ name) h = first_some b name

-- the name is the last piece
piece_again : (url name : Text) (version : Option VersionModel) (p : IsPlaced url name version) → p.piece ≡ name → Gives (url ++ marked_version hash_sign version) (Ok (specification name version (Some url)))
piece_again url name None p is =
    let pass = both_pass p.checks (name_check p.piece ∷ []) p.pass (subst (λ (n : Text). not (is_name n) ≡ false) (sym is) (name_passes name p.named), tt) in
    let read = with_url url _ (specification p.piece None (Some url)) (url_has url p.checks p.piece p.is_url p.pass).0 (url_alone p.checks p.piece p.lacks p.is_url) pass in
    let named = subst (λ (n : Text). Gives url (Ok (specification n None (Some url)))) is read in
    subst (λ (t : Text). Gives t (Ok (specification name None (Some url)))) (sym (append-nil url)) named
piece_again url name (Some v) p is =
    let fragment = version_again url name v p.named p.told in
    located_again url (parts_text v) name (Some v) p (version_some v)
    (subst (λ (piece : Text). Fragment (Some url) (Some piece) (parts_text v) (specification name (Some v) (Some url))) (sym is) fragment)

-- the name isn't the last piece
other_again : (url name : Text) (version : Option VersionModel) (p : IsPlaced url name version) → (p.piece ≡ name → ⊥) → Gives (url ++ hash_sign ∷ named_text name version) (Ok (specification name version (Some url)))
other_again url name None p other =
    let letter : begins_with_letter name ≡ true = ⊎_elim (λ e. absurd (other e)) (λ h. h) p.told in
    let fragment = name_again (Some url) (Some p.piece) name p.named (inr letter) in
    let read = located_again url name name None p (letter_some name letter) fragment in
    subst (λ (t : Text). Gives (url ++ hash_sign ∷ t) (Ok (specification name None (Some url)))) (sym (append-nil name)) read
other_again url name (Some v) p other =
    let fragment = split_again (Some url) (Some p.piece) name v p.named p.told in
    located_again url (named_text name (Some v)) name (Some v) p (middle_some name (parts_text v) at_sign) fragment

placed_again : (url name : Text) (version : Option VersionModel) (p : IsPlaced url name version) (same : Bool) → bytes_eq (after_last_slash url) name ≡ same → Gives (if same then url ++ marked_version hash_sign version else url ++ hash_sign ∷ named_text name version) (Ok (specification name version (Some url)))
placed_again url name version p true e =
    let piece = (url_has url p.checks p.piece p.is_url p.pass).1 in
    piece_again url name version p (sym piece ∙ (bytes_decides (after_last_slash url) name).0 e)
placed_again url name version p false e =
    let piece = (url_has url p.checks p.piece p.is_url p.pass).1 in
    other_again url name version p (λ is. false≢true (sym e ∙ (bytes_decides (after_last_slash url) name).1 (piece ∙ is)))

printed_again : (name : Text) (version : Option VersionModel) (url : Option Text) → IsPrintable name version url → Gives (text_of_parts name version url) (Ok (specification name version url))
printed_again name version None h = alone_again name version h.0 h.1
printed_again name version (Some url) h = placed_again url name version h (bytes_eq (after_last_slash url) name) refl

-- a specification that was read is printed as a text that reads as it, whatever the text was
pub spec_text-read : (t : Text) (s : Specification) → IsSpec t s.name s.version s.url → IsSpec (spec_text s) s.name s.version s.url
spec_text-read t s h =
    let read = read_passes h.checks h.value s h.is in
    let printable = text_printable t h.checks h.value h.is_read read.1 in
    printed_again s.name s.version s.url (subst (λ (a : Specification). IsPrintable a.name a.version a.url) (sym read.0) printable)

-- two that differ are printed otherwise
pub spec_text-distinct : (t u : Text) (a b : Specification) → IsSpec t a.name a.version a.url → IsSpec u b.name b.version b.url → spec_text a ≡ spec_text b → a ≡ b
spec_text-distinct t u a b h k same =
    let other = subst (λ (text : Text). IsSpec text b.name b.version b.url) (sym same) (spec_text-read u b k) in
    IsSpec-once (spec_text a) a b (spec_text-read t a h) other
