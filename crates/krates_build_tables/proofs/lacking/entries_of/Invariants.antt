use Rattle.std.proofs.Common.{map, take}
use Rattle.krates_cm.specs.Document.{dependency_view}
use Rattle.krates_build_tables.specs.Entries.{AreLackingEntries}
use Rattle.krates_build_tables.proofs.lacking.entries_of.Given as goal

-- the entries are of those so far
abbrev pub invariant-loop-declared : goal.invariant-loop-declared
invariant-loop-declared l = AreLackingEntries l.number (map (λ d. dependency_view d.now) (take l.declared-index l.unresolved)) l.entries.items
