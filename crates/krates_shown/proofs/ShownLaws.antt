-- Laws of what is shown, character by character.
use Rattle.std.proofs.Common.{◌≡◌, ◌<◌, ◌++◌, ◌∷◌, ◌∙◌, ◌||◌, ◌&&◌, ◌==◌, ℕ, Bool, true, false, cond, List, [], ap, append_assoc, arith, eqb, refl, subst, sym}
use Rattle.std.proofs.lemmas.Bool.{false≢true}
use Rattle.std.proofs.lemmas.Bool.Decides.{nat_tests}
use Rattle.std.proofs.lemmas.Str.{chars_from_encodes, encodes-append, encodes-chars, encodes_same}
use Rattle.std.specs.Char.{digit_value, encode_utf8}
use Rattle.std.specs.Fmt.{digits}
use Rattle.std.specs.Str.{IsUtf8, NoCharPasses, NonePass, chars, encode_utf8_all}
use Rattle.std.specs.Str.Parse.{AllDigits}
use Rattle.krates_shown.specs.Shown.{HasNoEscape, backslash, begins_code, closing, escape, is_escaped, is_hidden, opening, shown, shown_text}
use Rattle.krates_shown.proofs.ShownLemmas.{hex_digits, hex_range, hex_seen, same_number, small}

-- ---- nothing is hidden

none_pass_append : (p : ℕ → Bool) (xs ys : List ℕ) → NonePass p xs → NonePass p ys → NonePass p (xs ++ ys)
none_pass_append p [] ys a b = b
none_pass_append p (x ∷ xs) ys a b = (a.0, none_pass_append p xs ys a.1 b)

digits_seen : (ds : List ℕ) → AllDigits 16 ds → NonePass is_hidden ds
digits_seen [] hex = tt
digits_seen (d ∷ ds) hex = (hex_seen d hex.0, digits_seen ds hex.1)

-- of two tests neither holds
neither : (a b : Bool) → a || b ≡ false → a ≡ false
neither true b e = cc
neither false b e = refl

piece_seen : (c : ℕ) (cs : List ℕ) (b : Bool) → is_escaped c cs ≡ b → NonePass is_hidden (cond b (escape c) (c ∷ []))
piece_seen c cs true is = (refl, (refl, (refl, none_pass_append is_hidden (digits 16 false c) closing (digits_seen (digits 16 false c) (hex_digits c (small c cs is))) (refl, tt))))
piece_seen c cs false is = (neither (is_hidden c) (c == backslash && begins_code cs) is, tt)

all_seen : (cs : List ℕ) → NonePass is_hidden (shown cs)
all_seen [] = tt
all_seen (c ∷ cs) = none_pass_append is_hidden (cond (is_escaped c cs) (escape c) (c ∷ [])) (shown cs) (piece_seen c cs (is_escaped c cs) refl) (all_seen cs)

pub nothing_hidden : (text : List ℕ) → NoCharPasses is_hidden (shown_text text)
unfolding shown_text
nothing_hidden text = (shown (chars text), refl, all_seen (chars text))

-- ---- a number is that of one character

-- digits up to a brace
cut_same : (xs ys more others : List ℕ) → AllDigits 16 xs → AllDigits 16 ys → xs ++ 125 ∷ more ≡ ys ++ 125 ∷ others → (xs ≡ ys) × (more ≡ others)
cut_same [] [] more others a b e = (refl, cc)
cut_same [] (y ∷ ys) more others a b e = let same : 125 ≡ y = cc in absurd (omega (arith, same, (hex_range y b.0).1))
cut_same (x ∷ xs) [] more others a b e = let same : x ≡ 125 = cc in absurd (omega (arith, same, (hex_range x a.0).1))
cut_same (x ∷ xs) (y ∷ ys) more others a b e =
    let head : x ≡ y = cc in
    let rest = cut_same xs ys more others a.1 b.1 cc in (λ i. head i ∷ rest.0 i, rest.1)

-- what is shown begins as a number does only where the characters do
brace_first : (cs more : List ℕ) (b : Bool) (c : ℕ) → is_escaped c cs ≡ b → cond b (escape c) (c ∷ []) ++ shown cs ≡ 123 ∷ more → c ≡ 123
brace_first cs more true c is e = let same : ◌≡◌ {A = ℕ} 92 123 = cc in absurd (omega (arith, same))
brace_first cs more false c is e = cc

second : (cs more : List ℕ) → shown cs ≡ 123 ∷ more → begins_code (117 ∷ cs) ≡ true
second [] more e = absurd cc
second (c ∷ cs) more e = subst (λ x. begins_code (117 ∷ x ∷ cs) ≡ true) (sym (brace_first cs more (is_escaped c cs) c refl e)) refl

first : (cs more : List ℕ) (b : Bool) (c : ℕ) → is_escaped c cs ≡ b → cond b (escape c) (c ∷ []) ++ shown cs ≡ 117 ∷ 123 ∷ more → begins_code (c ∷ cs) ≡ true
first cs more true c is e = let same : ◌≡◌ {A = ℕ} 92 117 = cc in absurd (omega (arith, same))
first cs more false c is e =
    let same : c ≡ 117 = cc in
    subst (λ x. begins_code (x ∷ cs) ≡ true) (sym same) (second cs more cc)

begins_shown : (cs more : List ℕ) → shown cs ≡ 117 ∷ 123 ∷ more → begins_code cs ≡ true
begins_shown [] more e = absurd cc
begins_shown (c ∷ cs) more e = first cs more (is_escaped c cs) c refl e

-- a backslash that is shown as it is doesn't stand before what reads as a number
backslash_escaped : (cs : List ℕ) → begins_code cs ≡ true → is_escaped backslash cs ≡ true
backslash_escaped cs begins = begins

apart : (d : ℕ) (ds more : List ℕ) → is_escaped d ds ≡ false → d ∷ shown ds ≡ 92 ∷ 117 ∷ 123 ∷ more → ⊥
apart d ds more plain e =
    let same : d ≡ 92 = cc in
    let begins = begins_shown ds more cc in
    false≢true (sym plain ∙ subst (λ x. is_escaped x ds ≡ true) (sym same) (backslash_escaped ds begins))

-- what is shown of two first characters, and of the rest
both : (a b : Bool) (c d : ℕ) (cs ds : List ℕ) → is_escaped c cs ≡ a → is_escaped d ds ≡ b → cond a (escape c) (c ∷ []) ++ shown cs ≡ cond b (escape d) (d ∷ []) ++ shown ds → (c ≡ d) × (shown cs ≡ shown ds)
both false false c d cs ds is also e = (cc, cc)
both false true c d cs ds is also e = absurd (apart c cs _ is e)
both true false c d cs ds is also e = absurd (apart d ds _ also (sym e))
both true true c d cs ds is also e =
    let low = small c cs is in
    let high = small d ds also in
    let tails : (digits 16 false c ++ closing) ++ shown cs ≡ (digits 16 false d ++ closing) ++ shown ds = cc in
    let same = cut_same (digits 16 false c) (digits 16 false d) (shown cs) (shown ds) (hex_digits c low) (hex_digits d high)
    (sym (append_assoc (digits 16 false c) closing (shown cs)) ∙ tails ∙ append_assoc (digits 16 false d) closing (shown ds)) in
    (same_number c d low high same.0, same.1)

not_empty : (b : Bool) (c : ℕ) (more : List ℕ) → [] ≡ cond b (escape c) (c ∷ []) ++ more → ⊥
not_empty true c more e = cc
not_empty false c more e = cc

-- characters that are shown alike are the same
same_shown : (cs ds : List ℕ) → shown cs ≡ shown ds → cs ≡ ds
same_shown [] [] e = refl
same_shown [] (d ∷ ds) e = absurd (not_empty (is_escaped d ds) d (shown ds) e)
same_shown (c ∷ cs) [] e = absurd (not_empty (is_escaped c cs) c (shown cs) (sym e))
same_shown (c ∷ cs) (d ∷ ds) e =
    let parts = both (is_escaped c cs) (is_escaped d ds) c d cs ds refl refl e in
    let rest = same_shown cs ds parts.1 in λ i. parts.0 i ∷ rest i

pub one_text : (one other : List ℕ) → IsUtf8 one → IsUtf8 other → shown_text one ≡ shown_text other → one ≡ other
unfolding shown_text
one_text one other a b e =
    let same = same_shown (chars one) (chars other) (encodes_same (shown (chars one)) (shown (chars other)) e) in
    sym (encodes-chars one a) ∙ ap encode_utf8_all same ∙ encodes-chars other b

-- ---- what is plain is shown as it is

-- what begins a number
begun : (cs : List ℕ) → begins_code cs ≡ true → (rest : List ℕ) × (cs ≡ 117 ∷ 123 ∷ rest)
begun [] e = absurd cc
begun (c ∷ []) e = absurd (grind (arith, nat_tests))
begun (c ∷ d ∷ cs) e =
    let u : c ≡ 117 = grind (arith, nat_tests) in
    let brace : d ≡ 123 = grind (arith, nat_tests) in (cs, λ i. u i ∷ brace i ∷ cs)

right_part : (a b : Bool) → a || b ≡ true → a ≡ false → b ≡ true
right_part true b e f = absurd (false≢true (sym f))
right_part false b e f = e

both_parts : (a b : Bool) → a && b ≡ true → (a ≡ true) × (b ≡ true)
both_parts true b e = (refl, e)
both_parts false b e = absurd (false≢true e)

piece_as_it_is : (b : Bool) (c : ℕ) (cs : List ℕ) → is_escaped c cs ≡ b → is_hidden c ≡ false → HasNoEscape (encode_utf8 c ++ encode_utf8_all cs) → cond b (escape c) (c ∷ []) ≡ c ∷ []
unfolding encode_utf8
piece_as_it_is false c cs is seen none = refl
piece_as_it_is true c cs is seen none =
    let parts = both_parts (c == backslash) (begins_code cs) (right_part (is_hidden c) (c == backslash && begins_code cs) is seen) in
    let code = begun cs parts.1 in
    let same : c ≡ 92 = grind (arith, nat_tests, parts.0) in
    absurd (none [] (encode_utf8_all code.0) (λ i. encode_utf8 (same i) ++ encode_utf8_all (code.1 i)))

as_it_is : (cs : List ℕ) → NonePass is_hidden cs → HasNoEscape (encode_utf8_all cs) → shown cs ≡ cs
as_it_is [] seen none = refl
as_it_is (c ∷ cs) seen none =
    let rest = as_it_is cs seen.1 (λ before after e. none (encode_utf8 c ++ before) after (ap (λ more. encode_utf8 c ++ more) e ∙ simp append_assoc)) in
    ap (λ piece. piece ++ shown cs) (piece_as_it_is (is_escaped c cs) c cs refl seen.0 none) ∙ ap (λ more. c ∷ more) rest

pub plain_as_it_is : (text : List ℕ) → IsUtf8 text → NoCharPasses is_hidden text → HasNoEscape text → shown_text text ≡ text
unfolding shown_text
plain_as_it_is text utf8 seen none =
    let same = chars_from_encodes seen.0 text utf8 seen.1 in
    let plain : NonePass is_hidden (chars text) = subst (NonePass is_hidden) same seen.2 in
    ap encode_utf8_all (as_it_is (chars text) plain (subst HasNoEscape (sym (encodes-chars text utf8)) none)) ∙ encodes-chars text utf8
