-- Lines as they are shown.
use Rattle.std.specs.List.{flat_map}
use Rattle.std.specs.Prelude.{◌≡◌, [], ◌∷◌, ◌++◌, List}
use Rattle.krates_cm.specs.Document.{Text}
use Rattle.krates_shown.specs.Shown.{shown_text}

-- a line as it is shown, with its end
abbrev pub shown_line : Text → Text
shown_line line = shown_text line ++ 10 ∷ []

-- the text is lines, each as it is shown
pub record AreShownLines (text : Text) : Type 0 where
  pub lines : List Text
  pub shown : text ≡ flat_map shown_line lines
