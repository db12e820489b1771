-- The characters that divide the text of a package id or a package specification, and those that a name may have.
use Rattle.std.specs.Prelude.{ℕ}

-- ' '
abbrev pub blank : ℕ
blank = 32

-- '#'
abbrev pub hash_sign : ℕ
hash_sign = 35

-- '%'
abbrev pub percent_sign : ℕ
percent_sign = 37

-- '('
abbrev pub opening : ℕ
opening = 40

-- ')'
abbrev pub closing : ℕ
closing = 41

-- '+'
abbrev pub plus_sign : ℕ
plus_sign = 43

-- '-'
abbrev pub minus_sign : ℕ
minus_sign = 45

-- '/'
abbrev pub slash : ℕ
slash = 47

-- ':'
abbrev pub colon : ℕ
colon = 58

-- '?'
abbrev pub question_mark : ℕ
question_mark = 63

-- '@'
abbrev pub at_sign : ℕ
at_sign = 64

-- '_'
abbrev pub underscore : ℕ
underscore = 95
