use Rattle.std.proofs.Common.{[], take}
use Rattle.krates_build_answers.specs.Adding.{Adds, IsOfSome}
use Rattle.krates_build_answers.specs.BuiltTwice.{IsThisTwice}
use Rattle.krates_build_answers.proofs.twice.twice_among.Given as goal

-- those of the crates so far
abbrev pub invariant-loop-krate : goal.invariant-loop-krate
invariant-loop-krate l = Adds (IsOfSome (IsThisTwice l.units.derived) (take l.krate-index l.krates)) [] l.twice.items
