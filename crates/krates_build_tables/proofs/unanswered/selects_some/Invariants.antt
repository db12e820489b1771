use Rattle.std.proofs.Common.{IsTrue}
use Rattle.krates_rules.proofs.Seen.{SeenBelow}
use Rattle.krates_build_tables.specs.declared.selection.CrateFlags.{CrateFlags}
use Rattle.krates_build_tables.proofs.unanswered.selects_some.Given as goal

-- no crate so far is asked for
abbrev pub invariant-loop-krate : goal.invariant-loop-krate
invariant-loop-krate l = SeenBelow (λ (x : CrateFlags). IsTrue x.is_selected → ⊥) l.krate-items l.krate-index
