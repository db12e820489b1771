use Rattle.std.proofs.Common.{◌≡◌, ◌++◌, List, ℕ, length}
use Rattle.std.specs.Fmt.{HasWritten, IsPlainFormatter}
use Rattle.std.specs.Str.{IsUtf8}
use Rattle.std.specs.Str.Iter.{chars_rest}
use Rattle.krates_shown.specs.Shown.{shown_text}
use Rattle.krates_shown.proofs.shown.ShownDisplay.fmt.Given as goal

-- what is written so far, and what is shown of the rest, is what is shown of the whole
abbrev pub invariant-loop-character : goal.invariant-loop-character
invariant-loop-character g l = record {
  utf8 : IsUtf8 (chars_rest l.rest);
  so_far : IsPlainFormatter l.initial.f → (done : List ℕ) × HasWritten g.W.Write.write_str_gives l.initial.f done l.f × (shown_text l.self.0.now ≡ done ++ shown_text (chars_rest l.rest));
}

abbrev pub decreases-loop-character : goal.decreases-loop-character
decreases-loop-character g l = length (chars_rest l.rest)
