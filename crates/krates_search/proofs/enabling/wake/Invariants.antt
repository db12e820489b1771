use Rattle.std.proofs.Common.{◌≡◌}
use Rattle.krates_questions.specs.NodeEntry.{parent_of, child_of}
use Rattle.krates_search.specs.declared.links.Links.{Links}
use Rattle.krates_search.specs.declared.links.Waiting.{Waiting}
use Rattle.krates_rules.proofs.Seen.{SeenBelow}
use Rattle.krates_search.proofs.Growth.{with_links}
use Rattle.krates_search.specs.SearchState.{Advances, HasToggled}
use Rattle.krates_search.specs.Links.{HasMarked}
use Rattle.krates_search.proofs.enabling.wake.Given as goal

-- the dependency is marked, and the features so far have been toggled since
abbrev pub invariant-loop-waiter : goal.invariant-loop-waiter
invariant-loop-waiter l =
    (links : Links)
    × HasMarked l.fn.found.links links l.entry.place.index l.entry.index l.step l.waiter-items
    × Advances l.context (with_links l.fn.found links) l.found
    × SeenBelow (λ (w : Waiting). HasToggled l.context l.found (parent_of l.entry) (child_of l.entry) w.name.now) l.waiter-items l.waiter-index
    × (l.found.links ≡ links)
