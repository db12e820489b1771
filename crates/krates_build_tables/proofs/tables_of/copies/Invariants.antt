use Rattle.std.proofs.Common.{◌≡◌, take}
use Rattle.krates_build_tables.proofs.tables_of.copies.Given as goal

-- those so far are copied
abbrev pub invariant-loop-reference : goal.invariant-loop-reference
invariant-loop-reference l = l.copied.items ≡ take l.reference-index l.references
