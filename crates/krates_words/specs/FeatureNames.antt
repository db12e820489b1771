-- The names of features in what `--features` takes (Cargo Book, "cargo build", "Feature Selection": a "space or comma separated list").
use Rattle.std.specs.Prelude.{◌==◌, List, [], ◌∷◌, flat_map}
use Rattle.std.specs.List.{slice_split}
use Rattle.krates_cm.specs.Document.{Text}

-- a word that isn't empty
abbrev pub word_in : Text → List Text
word_in [] = []
word_in (byte ∷ word) = (byte ∷ word) ∷ []

-- the words between the spaces of a text, of which none is empty; 32 is a space
abbrev pub words_in : Text → List Text
words_in text = flat_map word_in (slice_split (λ byte. byte == 32) text)

-- the names between its commas and spaces; 44 is a comma
abbrev pub names_in : Text → List Text
names_in text = flat_map words_in (slice_split (λ byte. byte == 44) text)

-- those of several texts
abbrev pub names_of : List Text → List Text
names_of texts = flat_map names_in texts
