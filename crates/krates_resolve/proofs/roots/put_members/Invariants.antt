use Rattle.krates_ids.specs.Identity.{Identity}
use Rattle.krates_rules.specs.Resolved.{id_of}
use Rattle.krates_rules.proofs.Seen.{SeenBelow}
use Rattle.krates_search.specs.SearchState.{Advances, HasRooted}
use Rattle.krates_resolve.specs.Saturation.{HasRootedEach}
use Rattle.krates_questions.specs.Context.{HasRoot}
use Rattle.krates_resolve.proofs.roots.put_members.Given as goal

-- each member so far that is a root was found, and all that was put is rooted
abbrev pub invariant-loop-member : goal.invariant-loop-member
invariant-loop-member l =
    Advances l.context l.fn.found l.found
    × SeenBelow (λ (member : Identity). HasRoot l.context (id_of member) → HasRooted l.context l.found (id_of member)) l.members l.member-index
    × HasRootedEach l.context l.found l.places
