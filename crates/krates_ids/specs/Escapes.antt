-- Escapes in a query (RFC 3986, section 2.1), of the bytes that may be escaped in the query of a git source.
use Rattle.std.specs.Prelude.{◌≡◌, ℕ, ◌+◌, ◌*◌, ◌<◌, ◌⊎◌, length, slice_index, Bool, MatchBool}
use Rattle.std.specs.Char.{digit_value, IsAsciiPunctuation}
use Rattle.krates_cm.specs.Document.{Text}
use Rattle.krates_ids.specs.Separators.{blank, percent_sign}

-- the bytes that an escape may encode: the space and ASCII punctuation, which are 20 to 2F, 3A to 40, 5B to 60 and
-- 7B to 7E in hexadecimal
abbrev pub IsEscapable : ℕ → Type 0
IsEscapable b = (b ≡ blank) ⊎ IsAsciiPunctuation b

-- the two characters are the hexadecimal digits, letters in either case, of such a byte
pub record IsEscape (high low : ℕ) : Type 0 where
  pub high_digit : digit_value high < 16
  pub low_digit : digit_value low < 16
  pub byte : IsEscapable (16 * digit_value high + digit_value low)

-- if there is a '%' at k, it begins an escape
abbrev pub IsEscapedAt : Text → ℕ → Type 0
IsEscapedAt q k = slice_index q k ≡ percent_sign → (k + 2 < length q) × IsEscape (slice_index q (k + 1)) (slice_index q (k + 2))

-- each '%' of the query begins an escape
abbrev pub AreEscapes : Text → Type 0
AreEscapes q = (k : ℕ) → k < length q → IsEscapedAt q k

-- r says whether the fact holds
abbrev pub Tells : Type 0 → Bool → Type 0
Tells p r = MatchBool r p (p → ⊥)
