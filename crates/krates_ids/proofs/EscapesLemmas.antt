-- Laws of escapes: what is decoded is UTF-8, and a text without '%' is unchanged.
use Rattle.std.proofs.Common.{◌≡◌, ◌≢◌, ℕ, ◌+◌, ◌<◌, ◌≤◌, zero, suc, [], ◌∷◌, ◌++◌, length, get_or, Bool, true, false, ◌&&◌, refl, sym, ap, ◌∙◌, inl, inr, ⊎_elim, arith, append-nil, length-append}
use Rattle.std.specs.Char.{digit_value, encode_utf8, IsScalar}
use Rattle.std.specs.Str.{IsUtf8, encode_utf8_all, all_scalars}
use Rattle.std.proofs.lemmas.Bool.{cases_eq, false≢true}
use Rattle.std.proofs.lemmas.Str.{IsUtf8-nil, IsUtf8-append, IsUtf8-encode, encode_ascii, inside_one, len_utf8_bounds, length-encode}
use Rattle.percent_encoding.specs.Percent.{percent_decode}
use Rattle.percent_encoding.proofs.PercentLemmas.{percent_decode-nil, percent_decode_escape, percent_decode_not_percent}
use Rattle.krates_cm.specs.Document.{Text}
use Rattle.krates_text.specs.Cuts.{Lacks}
use Rattle.krates_ids.specs.Escapes.{IsEscapable, IsEscape, AreEscapes}
use Rattle.krates_ids.specs.Separators.{percent_sign}
use Rattle.krates_text.proofs.CutsLemmas.{Lacks-from_reads}
use Rattle.krates_ids.proofs.SpansLemmas.{IsUtf8-after_cut, IsUtf8-ascii_first}

-- a beginning without '%' is kept
percent_decode-plain : (x y : Text) → Lacks percent_sign x → percent_decode (x ++ y) ≡ x ++ percent_decode y
percent_decode-plain [] y none = refl
percent_decode-plain (b ∷ x) y none =
    percent_decode_not_percent b (x ++ y) none.0 ∙ ap (λ z. b ∷ z) (percent_decode-plain x y none.1)

-- a text without '%' decodes to itself
pub percent_decode-lacks : (q : Text) → Lacks percent_sign q → percent_decode q ≡ q
percent_decode-lacks q none =
    ap percent_decode (sym (append-nil q)) ∙ (percent_decode-plain q [] none ∙ (ap (λ z. q ++ z) percent_decode-nil ∙ append-nil q))

never_percent : (q : Text) (k : ℕ) → Lacks percent_sign q → get_or q k 0 ≡ percent_sign → ⊥
never_percent [] k none is = absurd (omega arith)
never_percent (b ∷ q) zero none is = none.0 is
never_percent (b ∷ q) (suc k) none is = never_percent q k none.1 is

-- a text without '%' has no bad escape
pub AreEscapes-lacks : (q : Text) → Lacks percent_sign q → AreEscapes q
AreEscapes-lacks q none k within is = absurd (never_percent q k none is)

-- what follows the first byte has no bad escape either
AreEscapes-rest : (b : ℕ) (q : Text) → AreEscapes (b ∷ q) → AreEscapes q
AreEscapes-rest b q good k within is =
    let here = good (suc k) (omega arith) is in
    let one : suc k + 1 ≡ suc (k + 1) = omega arith in
    let two : suc k + 2 ≡ suc (k + 2) = omega arith in
    (omega (arith, here.0), rw (one, two) at here.1)

AreEscapes-end : (x y : Text) → AreEscapes (x ++ y) → AreEscapes y
AreEscapes-end [] y good = good
AreEscapes-end (b ∷ x) y good = AreEscapes-end x y (AreEscapes-rest b (x ++ y) good)

IsEscapable-ascii : (b : ℕ) → IsEscapable b → b < 128
IsEscapable-ascii b (inl e) = omega arith
IsEscapable-ascii b (inr (inl (inl e))) = omega arith
IsEscapable-ascii b (inr (inl (inr e))) = omega arith
IsEscapable-ascii b (inr (inr (inl e))) = omega arith
IsEscapable-ascii b (inr (inr (inr e))) = omega arith

digit_ascii : (c : ℕ) → digit_value c < 16 → c < 128
digit_ascii c small = grind arith

-- a character other than '%' has no '%' in it
Lacks-encode : (c : ℕ) → c ≢ percent_sign → Lacks percent_sign (encode_utf8 c)
Lacks-encode c other =
    Lacks-from_reads percent_sign (encode_utf8 c) (λ k within is.
    other (inside_one c [] (encode_utf8 c) k (sym (append-nil (encode_utf8 c))) within (omega arith) ∙ is))

-- ---- what is decoded is UTF-8

first_is : (c : ℕ) (rest : Text) (b : ℕ) (q : Text) → c ≡ percent_sign → encode_utf8 c ++ rest ≡ b ∷ q → b ≡ percent_sign
first_is c rest b q is e =
    let one : encode_utf8 c ≡ c ∷ [] = encode_ascii c (omega arith) in
    let both : c ∷ rest ≡ b ∷ q = rw one at e in
    cc

abbrev DecodesToText : ℕ → Type 0
DecodesToText n = (q : Text) → length q ≤ n → IsUtf8 q → AreEscapes q → IsUtf8 (percent_decode q)

-- an escape comes first
after_escape : (n b : ℕ) (q : Text) → b ≡ percent_sign → length q ≤ n → IsUtf8 (b ∷ q) → AreEscapes (b ∷ q) → DecodesToText n → IsUtf8 (percent_decode (b ∷ q))
after_escape n b [] is short text good more = absurd (omega (arith, (good 0 (omega arith) is).0))
after_escape n b (high ∷ []) is short text good more = absurd (omega (arith, (good 0 (omega arith) is).0))
after_escape n b (high ∷ low ∷ rest) is short text good more =
    let escape : IsEscape high low = (good 0 (omega arith) is).1 in
    let decoded = percent_decode_escape b high low rest is escape.high_digit escape.low_digit in
    let text_high : IsUtf8 (high ∷ low ∷ rest) = IsUtf8-after_cut b (b ∷ high ∷ low ∷ rest) [] (high ∷ low ∷ rest) (omega arith) text refl in
    let text_low : IsUtf8 (low ∷ rest) = IsUtf8-after_cut high (high ∷ low ∷ rest) [] (low ∷ rest) (digit_ascii high escape.high_digit) text_high refl in
    let text_rest : IsUtf8 rest = IsUtf8-after_cut low (low ∷ rest) [] rest (digit_ascii low escape.low_digit) text_low refl in
    let good_rest : AreEscapes rest = AreEscapes-end (b ∷ high ∷ low ∷ []) rest good in
    rw decoded (IsUtf8-ascii_first _ _ (IsEscapable-ascii _ escape.byte) (more rest (omega arith) text_rest good_rest))

pub both_true : (x y : Bool) → (x && y) ≡ true → (x ≡ true) × (y ≡ true)
both_true true y e = (refl, e)
both_true false y e = absurd (false≢true e)

-- a character other than '%' comes first
after_char : (n b : ℕ) (q cs : Text) → b ≢ percent_sign → length q ≤ n → all_scalars cs ≡ true → encode_utf8_all cs ≡ b ∷ q → AreEscapes (b ∷ q) → DecodesToText n → IsUtf8 (percent_decode (b ∷ q))
after_char n b q [] other short valid is good more = absurd (cc)
after_char n b q (c ∷ cs) other short valid is good more =
    let both : IsScalar c × (all_scalars cs ≡ true) = both_true _ (all_scalars cs) valid in
    let no_percent : c ≢ percent_sign = λ e. other (first_is c (encode_utf8_all cs) b q e is) in
    let decoded : percent_decode (b ∷ q) ≡ encode_utf8 c ++ percent_decode (encode_utf8_all cs) =
    ap percent_decode (sym is) ∙ percent_decode-plain (encode_utf8 c) (encode_utf8_all cs) (Lacks-encode c no_percent) in
    let good_rest : AreEscapes (encode_utf8_all cs) = AreEscapes-end (encode_utf8 c) (encode_utf8_all cs) (rw is good) in
    let size : length (encode_utf8 c ++ encode_utf8_all cs) ≡ suc (length q) = ap length is in
    let shorter : length (encode_utf8_all cs) ≤ n =
    omega (arith, length-append (encode_utf8 c) (encode_utf8_all cs), length-encode c, (len_utf8_bounds c).0) in
    rw decoded (IsUtf8-append (encode_utf8 c) _ (IsUtf8-encode c both.0) (more (encode_utf8_all cs) shorter (cs, (both.1, refl)) good_rest))

-- by induction on the number of bytes left
decoded_text_by : (n : ℕ) (q : Text) → length q ≤ n → IsUtf8 q → AreEscapes q → IsUtf8 (percent_decode q)
decoded_text_by n [] short text good = rw percent_decode-nil IsUtf8-nil
decoded_text_by zero (b ∷ q) short text good = absurd (omega arith)
decoded_text_by (suc n) (b ∷ q) short text good =
    ⊎_elim (λ is. after_escape n b q is (omega arith) text good (decoded_text_by n)) (λ other. after_char n b q text.0 other (omega arith) text.1.0 text.1.1 good (decoded_text_by n)) (cases_eq b percent_sign)

pub IsUtf8-percent_decode : (q : Text) → IsUtf8 q → AreEscapes q → IsUtf8 (percent_decode q)
IsUtf8-percent_decode q = decoded_text_by (length q) q (omega arith)
