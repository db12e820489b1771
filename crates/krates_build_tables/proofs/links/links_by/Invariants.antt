use Rattle.std.proofs.Common.{take}
use Rattle.krates_build_tables.specs.Builds.{AreLinkEntries}
use Rattle.krates_build_tables.proofs.links.links_by.Given as goal

-- the links are of those so far
abbrev pub invariant-loop-pair : goal.invariant-loop-pair
invariant-loop-pair l = AreLinkEntries l.build l.number (take l.pair-index l.pairs) l.links.items
