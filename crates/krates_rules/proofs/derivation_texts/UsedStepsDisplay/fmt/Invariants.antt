use Rattle.std.proofs.Common.{◌∷◌, get_or, take}
use Rattle.std.specs.Fmt.{HasWritten, IsPlainFormatter}
use Rattle.krates_rules.specs.DerivationTexts.{uses_text}
use Rattle.krates_rules.proofs.derivation_texts.UsedStepsDisplay.fmt.Given as goal

-- the first number and those so far
abbrev pub invariant-loop-used : goal.invariant-loop-used
invariant-loop-used g l =
    IsPlainFormatter l.fn.f → HasWritten g.W.Write.write_str_gives l.fn.f (uses_text (get_or l.self.0.now 0 0 ∷ take l.used-index l.rest)) l.f
