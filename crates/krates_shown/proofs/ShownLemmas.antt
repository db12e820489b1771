-- What is shown of a text, character by character, and what its numbers are made of.
use Rattle.std.proofs.Common.{◌≡◌, ◌<◌, ◌≤◌, ◌++◌, ◌∷◌, ◌∙◌, ◌&&◌, ◌+◌, ◌/◌, ℕ, Bool, true, false, cond, List, [], ap, append-nil, append_assoc, arith, eqb, length, ltb, refl, sym, take}
use Rattle.std.proofs.lemmas.Bool.Decides.{nat_tests}
use Rattle.std.proofs.lemmas.Fmt.{digits_is_IsNumeral}
use Rattle.std.proofs.lemmas.Str.{IsUtf8-past_char, chars_past_char, encode_ascii, encodes-append}
use Rattle.std.specs.Char.{digit_value, encode_utf8}
use Rattle.std.specs.Fmt.{digits}
use Rattle.std.specs.List.{AllByRecursion}
use Rattle.std.specs.Str.{IsUtf8, NonePass, chars, encode_utf8_all}
use Rattle.std.specs.Str.Parse.{AllDigits, IsNumeral, digits_value}
use lib.Pointwise.{pointwise}
use lib.Utf8.{next}
use Rattle.krates_shown.specs.Shown.{backslash, begins_code, closing, escape, is_escaped, is_hidden, opening, shown, shown_before, shown_text}

-- ---- step by step

-- a text whose first character is c: what is shown of it, and then of the rest
pub shown_step : (text rest : List ℕ) (c : ℕ) → IsUtf8 text → text ≡ encode_utf8 c ++ rest → shown_text text ≡ shown_before c rest ++ shown_text rest
unfolding shown_text shown_before
shown_step text rest c utf8 is =
    ap (λ cs. encode_utf8_all (shown cs)) (chars_past_char text rest c utf8 is)
    ∙ encodes-append (cond (is_escaped c (chars rest)) (escape c) (c ∷ [])) (shown (chars rest))

shown_nothing : shown_text [] ≡ []
unfolding shown_text chars
shown_nothing = refl

-- what is shown so far, and then of a text whose first character is c
pub shown_on : (whole done text rest : List ℕ) (c : ℕ) → IsUtf8 text → text ≡ encode_utf8 c ++ rest → shown_text whole ≡ done ++ shown_text text → shown_text whole ≡ (done ++ shown_before c rest) ++ shown_text rest
shown_on whole done text rest c utf8 is so_far =
    so_far ∙ ap (λ more. done ++ more) (shown_step text rest c utf8 is) ∙ sym (append_assoc done (shown_before c rest) (shown_text rest))

-- and all of it, where nothing is left
pub shown_whole : (whole done rest : List ℕ) → length rest ≡ 0 → shown_text whole ≡ done ++ shown_text rest → done ≡ shown_text whole
shown_whole whole done [] none so_far = sym (so_far ∙ ap (λ more. done ++ more) shown_nothing ∙ append-nil done)
shown_whole whole done (b ∷ rest) none so_far = absurd (omega (arith, none))

-- ---- numbers

-- a hexadecimal digit is a digit or a letter
pub hex_range : (d : ℕ) → digit_value d < 16 → (47 < d) × (d < 103)
hex_range d h = (grind (arith, nat_tests), grind (arith, nat_tests))

pub hex_seen : (d : ℕ) → digit_value d < 16 → is_hidden d ≡ false
hex_seen d h =
    let range = hex_range d h in grind (arith, nat_tests)

-- a character that is shown by its number is below this one
pub small : (c : ℕ) (cs : List ℕ) → is_escaped c cs ≡ true → c < 0x206A
small c cs is = grind (arith, nat_tests)

numeral : (c : ℕ) → c < 0x206A → IsNumeral 16 (digits 16 false c) × (digits_value 16 (digits 16 false c) ≡ c)
numeral c low = digits_is_IsNumeral 16 false (omega arith) (omega arith) c (omega arith)

pub hex_digits : (c : ℕ) → c < 0x206A → AllDigits 16 (digits 16 false c)
hex_digits c low = (numeral c low).0.1

-- different numbers have different digits
pub same_number : (c d : ℕ) → c < 0x206A → d < 0x206A → digits 16 false c ≡ digits 16 false d → c ≡ d
same_number c d low also e = sym (numeral c low).1 ∙ ap (digits_value 16) e ∙ (numeral d also).1

-- ---- bytes

-- hexadecimal digits are bytes as they are
encoded_digits : (ds more : List ℕ) → AllDigits 16 ds → encode_utf8_all (ds ++ more) ≡ ds ++ encode_utf8_all more
encoded_digits [] more hex = refl
encoded_digits (d ∷ ds) more hex =
    ap (λ first. first ++ encode_utf8_all (ds ++ more)) (encode_ascii d (omega (arith, (hex_range d hex.0).1))) ∙ ap (λ bytes. d ∷ bytes) (encoded_digits ds more hex.1)

-- and so is a character by its number
escape_bytes : (c : ℕ) → c < 0x206A → encode_utf8_all (escape c) ≡ escape c
unfolding encode_utf8
escape_bytes c low = ap (λ bytes. 92 ∷ 117 ∷ 123 ∷ bytes) (encoded_digits (digits 16 false c) closing (hex_digits c low))

pub escaped_before : (c : ℕ) (rest : List ℕ) → true ≡ is_escaped c (chars rest) → escape c ≡ shown_before c rest
unfolding shown_before
escaped_before c rest is = sym (escape_bytes c (small c (chars rest) (sym is))) ∙ ap (λ b. encode_utf8_all (cond b (escape c) (c ∷ []))) is

pub plain_before : (c : ℕ) (rest : List ℕ) → false ≡ is_escaped c (chars rest) → encode_utf8 c ≡ shown_before c rest
unfolding shown_before
plain_before c rest is = sym (append-nil (encode_utf8 c)) ∙ ap (λ b. encode_utf8_all (cond b (escape c) (c ∷ []))) is

-- ---- the beginning of a number, in characters and in bytes

abbrev IsLow : ℕ → Type 0
IsLow p = p < 128

-- the bytes of a character that isn't ASCII
abbrev long : ℕ → List ℕ
long c = cond (ltb c 2048) ((192 + c / 64) ∷ next c ∷ []) (cond (ltb c 65536) ((224 + c / 4096) ∷ next (c / 64) ∷ next c ∷ []) ((240 + c / 262144) ∷ next (c / 4096) ∷ next (c / 64) ∷ next c ∷ []))

no_lead : (p x : ℕ) (rest : Bool) → p < 128 → 128 ≤ x → eqb p x && rest ≡ false
no_lead p x rest low high = grind (arith, nat_tests)

-- a character that isn't ASCII begins with a byte that isn't
lead : (a b : Bool) (x y z : ℕ) (xs ys zs more needle : List ℕ) (p : ℕ) → p < 128 → 128 ≤ x → 128 ≤ y → 128 ≤ z
    → pointwise eqb (p ∷ needle) (take (length (p ∷ needle)) (cond a (x ∷ xs) (cond b (y ∷ ys) (z ∷ zs)) ++ more)) ≡ false
lead true b x y z xs ys zs more needle p low hx hy hz = no_lead p x (pointwise eqb needle (take (length needle) (xs ++ more))) low hx
lead false true x y z xs ys zs more needle p low hx hy hz = no_lead p y (pointwise eqb needle (take (length needle) (ys ++ more))) low hy
lead false false x y z xs ys zs more needle p low hx hy hz = no_lead p z (pointwise eqb needle (take (length needle) (zs ++ more))) low hz

-- the same of a first character, and the rest
by_first : (b : Bool) (p c : ℕ) (needle cs : List ℕ) → ltb c 128 ≡ b → p < 128 → pointwise eqb needle (take (length needle) (encode_utf8_all cs)) ≡ pointwise eqb needle (take (length needle) cs)
    → pointwise eqb (p ∷ needle) (take (length (p ∷ needle)) (encode_utf8 c ++ encode_utf8_all cs)) ≡ pointwise eqb (p ∷ needle) (take (length (p ∷ needle)) (c ∷ cs))
unfolding encode_utf8
by_first true p c needle cs is low same =
    ap (λ bytes. pointwise eqb (p ∷ needle) (take (length (p ∷ needle)) (bytes ++ encode_utf8_all cs))) (encode_ascii c (grind (arith, nat_tests))) ∙ ap (λ rest. eqb p c && rest) same
by_first false p c needle cs is low same =
    let high : 128 ≤ c = grind (arith, nat_tests) in
    ap (λ b. pointwise eqb (p ∷ needle) (take (length (p ∷ needle)) (cond b (c ∷ []) (long c) ++ encode_utf8_all cs))) is
    ∙ lead (ltb c 2048) (ltb c 65536) (192 + c / 64) (224 + c / 4096) (240 + c / 262144) _ _ _ (encode_utf8_all cs) needle p low (omega arith) (omega arith) (omega arith)
    ∙ sym (no_lead p c (pointwise eqb needle (take (length needle) cs)) low high)

-- characters below this one begin alike as they are and in bytes
starts_same : (needle cs : List ℕ) → AllByRecursion IsLow needle → pointwise eqb needle (take (length needle) (encode_utf8_all cs)) ≡ pointwise eqb needle (take (length needle) cs)
starts_same [] cs low = refl
starts_same (p ∷ needle) [] low = refl
starts_same (p ∷ needle) (c ∷ cs) low = by_first (ltb c 128) p c needle cs refl low.0 (starts_same needle cs low.1)

-- characters begin with `u{` where their bytes do
pub same_beginning : (cs : List ℕ) → begins_code (encode_utf8_all cs) ≡ begins_code cs
same_beginning cs = starts_same opening cs (omega arith, (omega arith, tt))
