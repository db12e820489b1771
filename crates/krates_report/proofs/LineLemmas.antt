-- The lines of an answer stay lines as they are shown.
use Rattle.std.proofs.Common.{◌++◌, ◌∷◌, ◌∙◌, [], Some, ap, inl, inr, subst, sym}
use Rattle.std.proofs.Math.Logic.{∥∥₁_map}
use Rattle.std.proofs.lemmas.List.{flat_map_more}
use Rattle.krates_cm.specs.Document.{Text}
use Rattle.krates_text.specs.WrittenText.{Grows, held}
use Rattle.krates_text.specs.declared.text.Text.{Text as GrowingText}
use Rattle.krates_report.specs.LineTexts.{AreShownLines, shown_line}

-- one more line
one_more : (text line : Text) → AreShownLines text → AreShownLines (text ++ shown_line line)
one_more text line those = record {
  lines = those.lines ++ line ∷ [];
  shown = ap (λ t. t ++ shown_line line) those.shown ∙ flat_map_more shown_line [] those.lines line;
}

-- a line is added, or nothing
grown_lines : (before : GrowingText) (line : Text) (after : GrowingText) → Grows before (Some (shown_line line)) after
    → AreShownLines (held before) → AreShownLines (held after)
grown_lines before line after (inl added) those =
    subst AreShownLines (sym (added.added ∙ ap (λ bytes. held before ++ bytes) added.known)) (one_more (held before) line those)
grown_lines before line after (inr missed) those = subst AreShownLines (sym missed.same) those

pub grown : (before : GrowingText) (line : Text) (after : GrowingText) → Grows before (Some (shown_line line)) after
    → ∥ AreShownLines (held before) ∥₁ → ∥ AreShownLines (held after) ∥₁
grown before line after grows those = ∥∥₁_map those (grown_lines before line after grows)
