-- How a text that someone else wrote is shown.
use Rattle.std.specs.Char.{is_control}
use Rattle.std.specs.Fmt.{digits}
use Rattle.std.specs.Int.{is_in_range}
use Rattle.std.specs.List.{starts_with}
use Rattle.std.specs.Prelude.{ℕ, ◌≡◌, ◌==◌, ◌&&◌, ◌||◌, Bool, false, List, [], ◌∷◌, ◌++◌, cond}
use Rattle.std.specs.Str.{chars, encode_utf8_all}

-- the characters that end a line or a paragraph and aren't control characters
abbrev pub is_separator : ℕ → Bool
is_separator c = is_in_range 0x2028 0x2029 c

-- the characters that turn the direction of what follows (Unicode Standard Annex 9, "Directional Formatting Characters")
abbrev pub is_directional : ℕ → Bool
is_directional c = c == 0x61C || is_in_range 0x200E 0x200F c || is_in_range 0x202A 0x202E c || is_in_range 0x2066 0x2069 c

-- a character ends a line, moves the cursor or turns the direction
abbrev pub is_hidden : ℕ → Bool
is_hidden c = is_control c || is_separator c || is_directional c

-- the backslash, and `u{` and `}`, between which a character's number stands
abbrev pub backslash : ℕ
backslash = 92

abbrev pub opening : List ℕ
opening = 117 ∷ 123 ∷ []

abbrev pub closing : List ℕ
closing = 125 ∷ []

-- these characters begin as a number between braces does
abbrev pub begins_code : List ℕ → Bool
begins_code cs = starts_with (◌==◌) cs opening

-- a character by its number, in hexadecimal digits
abbrev pub escape : ℕ → List ℕ
escape c = backslash ∷ opening ++ digits 16 false c ++ closing

-- A character is shown by its number before these: it is hidden, or a backslash that would read as the beginning of a number.
abbrev pub is_escaped : ℕ → List ℕ → Bool
is_escaped c cs = is_hidden c || (c == backslash && begins_code cs)

-- these characters as they are shown
abbrev pub shown : List ℕ → List ℕ
shown [] = []
shown (c ∷ cs) = cond (is_escaped c cs) (escape c) (c ∷ []) ++ shown cs

-- a text as it is shown
unfoldable pub shown_text : List ℕ → List ℕ
shown_text text = encode_utf8_all (shown (chars text))

-- a character as it is shown before the rest of its text
unfoldable pub shown_before : ℕ → List ℕ → List ℕ
shown_before c rest = encode_utf8_all (cond (is_escaped c (chars rest)) (escape c) (c ∷ []))

-- no backslash stands before `u{` in the text
abbrev pub HasNoEscape : List ℕ → Type 0
HasNoEscape text = (before after : List ℕ) → text ≡ before ++ backslash ∷ opening ++ after → ⊥
