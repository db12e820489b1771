use Rattle.std.proofs.Common.{take}
use Rattle.std.specs.Fmt.{HasWritten, IsPlainFormatter}
use Rattle.krates_rules.specs.DerivationTexts.{lines_from}
use Rattle.krates_rules.proofs.derivation_texts.DerivationDisplay.fmt.Given as goal

-- the lines of the steps so far
abbrev pub invariant-loop-number : goal.invariant-loop-number
invariant-loop-number g l =
    IsPlainFormatter l.fn.f → HasWritten g.W.Write.write_str_gives l.fn.f (lines_from 0 (take l.number-counter l.self.steps.items)) l.f
