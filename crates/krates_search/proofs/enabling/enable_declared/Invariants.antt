use Rattle.std.proofs.Common.{◌≡◌, String, Global}
use Rattle.krates_cm.specs.Document.{text_view}
use Rattle.krates_rules.specs.Resolved.{id_of}
use Rattle.krates_rules.proofs.Seen.{SeenBelow}
use Rattle.krates_search.specs.SearchState.{HasEnabled, Advances}
use Rattle.krates_search.proofs.enabling.enable_declared.Given as goal

-- the features so far are enabled
abbrev pub invariant-loop-name : goal.invariant-loop-name
invariant-loop-name l =
    Advances l.context l.fn.found l.found
    × SeenBelow (λ (name : String Global). HasEnabled l.context l.found (id_of l.node.id.now) (text_view name)) l.name-items l.name-index
    × (l.found.links ≡ l.fn.found.links)
