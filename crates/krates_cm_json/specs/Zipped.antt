-- Several values that are read side by side.
use Rattle.std.specs.Prelude.{Result, Ok, Err}
use Rattle.krates_cm.specs.declared.read_error.ReadError.{ReadError}

-- three values, where each was read, or else the first refusal
abbrev pub zip_three : {A B C : Type 0} → Result A ReadError → Result B ReadError → Result C ReadError → Result (A × B × C) ReadError
zip_three (Err e) b c = Err e
zip_three (Ok x) (Err e) c = Err e
zip_three (Ok x) (Ok y) (Err e) = Err e
zip_three (Ok x) (Ok y) (Ok z) = Ok (x, y, z)

-- the same of four
abbrev pub zip_four : {A B C D : Type 0} → Result A ReadError → Result B ReadError → Result C ReadError → Result D ReadError → Result (A × B × C × D) ReadError
zip_four (Err e) b c d = Err e
zip_four (Ok x) (Err e) c d = Err e
zip_four (Ok x) (Ok y) (Err e) d = Err e
zip_four (Ok x) (Ok y) (Ok z) (Err e) = Err e
zip_four (Ok x) (Ok y) (Ok z) (Ok w) = Ok (x, y, z, w)
