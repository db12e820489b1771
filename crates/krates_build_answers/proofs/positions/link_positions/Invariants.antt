use Rattle.std.proofs.Common.{[], take}
use Rattle.krates_build_answers.specs.Adding.{Adds, IsOfSome}
use Rattle.krates_build_answers.specs.Positions.{StandsAt}
use Rattle.krates_build_answers.proofs.positions.link_positions.Given as goal

-- those of the links so far
abbrev pub invariant-loop-link : goal.invariant-loop-link
invariant-loop-link l = Adds (IsOfSome (StandsAt l.built) (take l.link-index l.links)) [] l.pairs.items
