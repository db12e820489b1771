use Rattle.std.proofs.Common.{[], take}
use Rattle.krates_build_answers.specs.Adding.{Adds, IsOfSome}
use Rattle.krates_build_answers.specs.Links.{IsLinkOver}
use Rattle.krates_build_answers.proofs.links.links_over.Given as goal

-- those over the needs so far
abbrev pub invariant-loop-need : goal.invariant-loop-need
invariant-loop-need l = Adds (IsOfSome (IsLinkOver l.units.derived) (take l.need-index l.needs)) [] l.links.items
