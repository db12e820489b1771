use Rattle.std.proofs.Common.{◌≡◌, [], length}
use Rattle.std.specs.Str.Iter.{chars_rest}
use Rattle.krates_text.specs.CfgReader.{at, at_predicate, run}
use Rattle.krates_text.specs.CfgFrames.{stack}
use Rattle.krates_text.specs.CfgPlaces.{place_of}
use Rattle.krates_text.proofs.cfg.reader.read.Given as goal

abbrev pub invariant-loop-c : goal.invariant-loop-c
invariant-loop-c l = run (at (stack l.frames.items) (place_of l.place)) (chars_rest l.chars) ≡ run (at [] at_predicate) l.text

abbrev pub decreases-loop-c : goal.decreases-loop-c
decreases-loop-c l = length (chars_rest l.chars)
