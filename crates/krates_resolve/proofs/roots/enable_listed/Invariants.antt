use Rattle.std.proofs.Common.{String, Global, string_bytes}
use Rattle.krates_rules.specs.Facts.{Feature}
use Rattle.krates_search.specs.SearchState.{HasFound, Advances}
use Rattle.krates_rules.specs.Resolved.{id_of}
use Rattle.krates_rules.proofs.Seen.{SeenBelow}
use Rattle.krates_resolve.proofs.roots.enable_listed.Given as goal

-- each feature so far is enabled
abbrev pub invariant-loop-name : goal.invariant-loop-name
invariant-loop-name l =
    Advances l.context l.fn.found l.found
    × SeenBelow (λ (name : String Global). HasFound l.context l.found (Feature (id_of l.node.id.now) (string_bytes name))) l.name-items l.name-index
