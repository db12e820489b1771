use Rattle.std.proofs.Common.{map, take}
use Rattle.std.specs.Fmt.{HasWritten, IsPlainFormatter}
use Rattle.krates_cm.specs.Document.{text_view}
use Rattle.krates_verdict.specs.RefusalText.{behind_blanks}
use Rattle.krates_verdict.proofs.refusal.WordsDisplay.fmt.Given as goal

-- the words so far
abbrev pub invariant-loop-word : goal.invariant-loop-word
invariant-loop-word g l =
    IsPlainFormatter l.fn.f → HasWritten g.W.Write.write_str_gives l.fn.f (behind_blanks (map text_view (take l.word-index l.self.0.now))) l.f
