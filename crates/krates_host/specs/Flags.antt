-- The flags that the environment has for rustc (Cargo Book, "Configuration", "build.rustflags": those of `CARGO_ENCODED_RUSTFLAGS` are "separated
-- by 0x1f", and those of `RUSTFLAGS` are "space-separated"; cargo takes no blanks at their ends).
use Rattle.std.specs.Prelude.{◌==◌, List, [], ◌∷◌, flat_map}
use Rattle.std.specs.List.{slice_split}
use Rattle.std.specs.Str.{trim}
use Rattle.krates_cm.specs.Document.{Text}
use Rattle.krates_words.specs.FeatureNames.{word_in}

-- what stands between the unit separators of a text; 31 is one
abbrev pub encoded_parts : Text → List Text
encoded_parts text = slice_split (λ byte. byte == 31) text

-- the flags in a text of `CARGO_ENCODED_RUSTFLAGS`, of which one may be empty: none if the text is
abbrev pub encoded_flags : Text → List Text
encoded_flags [] = []
encoded_flags (byte ∷ text) = encoded_parts (byte ∷ text)

-- a flag without the blanks at its ends, if something is left
abbrev pub flag_in : Text → List Text
flag_in part = word_in (trim part)

-- the flags in a text of `RUSTFLAGS`: what stands between its spaces; 32 is one
abbrev pub flags_in : Text → List Text
flags_in text = flat_map flag_in (slice_split (λ byte. byte == 32) text)
