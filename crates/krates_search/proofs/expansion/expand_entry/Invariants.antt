use Rattle.std.proofs.Common.{◌≡◌, true}
use Rattle.krates_search.specs.SearchState.{IsAny, TakenWhen, Advances}
use Rattle.krates_search.proofs.TriedKinds.{TriedKinds}
use Rattle.krates_search.proofs.expansion.expand_entry.Given as goal

-- each edge so far has been tried, and where none was passed over, as one that is asked for; none is where they are asked for
abbrev pub invariant-loop-kind : goal.invariant-loop-kind
invariant-loop-kind l =
    Advances l.context l.fn.found l.found
    × TriedKinds l.context l.found l.entry (TakenWhen l.asked) l.kind-items l.kind-index
    × (l.whole ≡ true → TriedKinds l.context l.found l.entry IsAny l.kind-items l.kind-index)
    × (l.asked ≡ true → l.whole ≡ true)
