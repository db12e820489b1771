use Rattle.std.proofs.Common.{length}
use denote.Text.{Utf8}
use denote.Shadow.{shadow}
use Rattle.krates_text.proofs.PathLemmas.{IsTrimming}
use Rattle.krates_text.proofs.path.split_last.Given as goal

abbrev pub invariant-loop-before : goal.invariant-loop-before
invariant-loop-before l = shadow (Utf8 l.rest) × IsTrimming l.path l.rest

abbrev pub decreases-loop-before : goal.decreases-loop-before
decreases-loop-before l = length l.rest
