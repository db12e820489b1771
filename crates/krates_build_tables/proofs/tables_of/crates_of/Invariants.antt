use Rattle.krates_build_tables.specs.CrateParts.{AreCrates}
use Rattle.krates_build_tables.proofs.tables_of.crates_of.Given as goal

-- the entries of the crates so far
abbrev pub invariant-loop-number : goal.invariant-loop-number
invariant-loop-number l = AreCrates l.build l.number l.crates.items
