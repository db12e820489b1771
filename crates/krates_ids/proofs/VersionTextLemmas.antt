-- The text of a version that was read: it reads as the version, and can be distinguished from a name and from what follows one.
use Rattle.std.proofs.Common.{◌≡◌, ℕ, suc, ◌+◌, ◌<◌, ◌^◌, ◌%◌, List, [], ◌∷◌, ◌++◌, Bool, true, false, length, refl, sym, ap, ◌∙◌, arith, append_assoc}
use Rattle.std.specs.Prelude.{◌==◌, ◌||◌, ◌&&◌, not, nat_lt, Some, Ok, Err, Result}
use Rattle.std.specs.Fmt.{decimal}
use Rattle.std.specs.List.{list_all}
use Rattle.std.specs.Result.{result_ok}
use Rattle.std.proofs.lemmas.Bool.{and_parts, and_from, false≢true, ne_eqb}
use Rattle.std.proofs.lemmas.Bool.Decides.{nat_tests}
use Rattle.std.proofs.lemmas.Fmt.{decimal_by_steps}
use Rattle.std.proofs.lemmas.List.Folds.{list_all-append}
use Rattle.std.proofs.lemmas.Option.{same_Some}
use Rattle.semver.specs.Grammar.{IsValid, is_identifier_byte, is_build_identifier, is_pre_identifier, is_pre_release, is_build, has_leading_zero}
use Rattle.semver.specs.Identifiers.{marked, parts_text}
use Rattle.semver.specs.Order.{is_numeric, parts}
use Rattle.semver.specs.OrderLaws.{join_dots, join-parts}
use Rattle.semver.specs.Parse.{version_parts}
use Rattle.semver.proofs.Grammar.{version_parts-sound, version_parts-complete}
use Rattle.krates_cm.specs.Document.{Text, VersionModel}
use Rattle.krates_cm.specs.Names.{version_named}
use Rattle.krates_text.specs.Cuts.{Lacks}
use Rattle.krates_ids.specs.PackageSpecification.{begins_with_letter}

-- ---- reading

is_ok : {T E : Type 0} (r : Result T E) (x : T) → result_ok r ≡ Some x → r ≡ Ok x
is_ok (Ok y) x h = ap (λ z. Ok z) (same_Some y x h)
is_ok (Err e) x h = absurd cc

-- a version that a text names has a text of the grammar
pub valid_named : (t : Text) (v : VersionModel) → version_named t ≡ Some v → IsValid v
valid_named t v h = (version_parts-sound t v (is_ok (version_parts t) v h)).1

-- and that text names it
pub named_valid : (v : VersionModel) → IsValid v → version_named (parts_text v) ≡ Some v
named_valid v h = ap result_ok (version_parts-complete v h)

-- ---- the bytes of a version

-- what passes a test is not a byte that doesn't
pub lacks_refused : (test : ℕ → Bool) (c : ℕ) (t : Text) → list_all test t ≡ true → test c ≡ false → Lacks c t
lacks_refused test c [] h refused = tt
lacks_refused test c (b ∷ t) h refused =
    let passed = and_parts (test b) (list_all test t) h in
    (λ same. false≢true (sym refused ∙ (ap test (sym same) ∙ passed.0)), lacks_refused test c t passed.1 refused)

all_weaker : {A : Type 0} (f g : A → Bool) (xs : List A) → ((x : A) → f x ≡ true → g x ≡ true) → list_all f xs ≡ true → list_all g xs ≡ true
all_weaker f g [] weaker h = refl
all_weaker f g (x ∷ xs) weaker h =
    let passed = and_parts (f x) (list_all f xs) h in
    and_from (g x) (list_all g xs) (weaker x passed.0) (all_weaker f g xs weaker passed.1)

-- a byte of an identifier, '.' or '+'
abbrev pub is_version_byte : ℕ → Bool
is_version_byte b = is_identifier_byte b || (b == 46) || (b == 43)

abbrev IsOfVersion : Text → Type 0
IsOfVersion t = list_all is_version_byte t ≡ true

identifier_is : (b : ℕ) → is_identifier_byte b ≡ true → is_version_byte b ≡ true
identifier_is b h = rw h refl

identifiers_are : (t : Text) → list_all is_identifier_byte t ≡ true → IsOfVersion t
identifiers_are t h = all_weaker is_identifier_byte is_version_byte t identifier_is h

joined : (x y : Text) → IsOfVersion x → IsOfVersion y → IsOfVersion (x ++ y)
joined x y h k = list_all-append is_version_byte x y ∙ and_from (list_all is_version_byte x) (list_all is_version_byte y) h k

dot_before : (t : Text) → IsOfVersion t → IsOfVersion (46 ∷ t)
dot_before t h = h

digit_is : (n : ℕ) → n < 10 → IsOfVersion ((48 + n) ∷ [])
digit_is n lt = grind (arith, nat_tests)

decimal_is : (n : ℕ) → n < 2 ^ 64 → IsOfVersion (decimal n)
decimal_is = decimal_by_steps (λ _ ds. IsOfVersion ds) digit_is (λ n ds ge h. joined ds ((48 + n % 10) ∷ []) h (digit_is (n % 10) (omega arith)))

identifiers_of : (p : Text) → is_build_identifier p ≡ true → list_all is_identifier_byte p ≡ true
identifiers_of p h = (and_parts (nat_lt 0 (length p)) (list_all is_identifier_byte p) h).1

weaker_pre : (p : Text) → is_pre_identifier p ≡ true → is_build_identifier p ≡ true
weaker_pre p h = (and_parts (is_build_identifier p) (not (is_numeric p && has_leading_zero p)) h).0

-- the identifiers of build metadata, with dots between them
with_dots : (ps : List Text) → list_all is_build_identifier ps ≡ true → IsOfVersion (join_dots ps)
unfolding join_dots
with_dots [] h = refl
with_dots (p ∷ []) h = identifiers_are p (identifiers_of p (and_parts (is_build_identifier p) true h).0)
with_dots (p ∷ q ∷ rest) h =
    let both = and_parts (is_build_identifier p) (list_all is_build_identifier (q ∷ rest)) h in
    joined p (46 ∷ join_dots (q ∷ rest)) (identifiers_are p (identifiers_of p both.0)) (with_dots (q ∷ rest) both.1)

identifiers_joined : (t : Text) → list_all is_build_identifier (parts t) ≡ true → IsOfVersion t
identifiers_joined t h = rw (join-parts t) at (with_dots (parts t) h)

pre_is : (t : Text) → is_pre_release t ≡ true → IsOfVersion (marked 45 t)
pre_is [] h = refl
pre_is (b ∷ rest) h =
    identifiers_joined (b ∷ rest) (all_weaker is_pre_identifier is_build_identifier (parts (b ∷ rest)) weaker_pre h)

build_is : (t : Text) → is_build t ≡ true → IsOfVersion (marked 43 t)
build_is [] h = refl
build_is (b ∷ rest) h = identifiers_joined (b ∷ rest) h

-- each byte of a version's text is one of these
pub version_bytes : (v : VersionModel) → IsValid v → list_all is_version_byte (parts_text v) ≡ true
version_bytes v h =
    let marks = joined (marked 45 v.3) (marked 43 v.4) (pre_is v.3 h.3) (build_is v.4 h.4) in
    let third = joined (decimal v.2) (marked 45 v.3 ++ marked 43 v.4) (decimal_is v.2 h.2) marks in
    let second = joined (decimal v.1) (46 ∷ (decimal v.2 ++ (marked 45 v.3 ++ marked 43 v.4))) (decimal_is v.1 h.1) third in
    joined (decimal v.0) (46 ∷ (decimal v.1 ++ (46 ∷ (decimal v.2 ++ (marked 45 v.3 ++ marked 43 v.4))))) (decimal_is v.0 h.0) second

-- ---- how it begins

digit_first : (n : ℕ) → n < 10 → (rest : Text) → begins_with_letter (((48 + n) ∷ []) ++ rest) ≡ false
digit_first n lt rest = grind (arith, nat_tests)

decimal_first : (n : ℕ) → n < 2 ^ 64 → (rest : Text) → begins_with_letter (decimal n ++ rest) ≡ false
decimal_first = decimal_by_steps (λ _ ds. (rest : Text) → begins_with_letter (ds ++ rest) ≡ false) digit_first
    (λ n ds ge h rest. ap begins_with_letter (append_assoc ds ((48 + n % 10) ∷ []) rest) ∙ h ((48 + n % 10) ∷ rest))

-- a version's text begins with a digit
pub version_first : (v : VersionModel) → IsValid v → begins_with_letter (parts_text v) ≡ false
version_first v h = decimal_first v.0 h.0 _

-- a text with a first byte isn't empty
pub first_some : (b : ℕ) (t : Text) → (length (b ∷ t) == 0) ≡ false
first_some b t = ne_eqb (suc (length t)) 0 (λ e. omega (arith, e))

-- nor is one with a byte in its middle
pub middle_some : (x y : Text) (c : ℕ) → (length (x ++ c ∷ y) == 0) ≡ false
middle_some [] y c = first_some c y
middle_some (b ∷ x) y c = first_some b (x ++ c ∷ y)

-- nor is a version's text
pub version_some : (v : VersionModel) → (length (parts_text v) == 0) ≡ false
version_some v = middle_some (decimal v.0) _ 46
