use Rattle.std.proofs.Common.{◌≡◌, IsTrue}
use Rattle.krates_rules.proofs.Seen.{SeenBelow}
use Rattle.krates_build_tables.specs.declared.selection.CrateFlags.{CrateFlags}
use Rattle.krates_build_tables.proofs.taken.names_other.Given as goal

-- no crate so far is such a member
abbrev pub invariant-loop-krate : goal.invariant-loop-krate
invariant-loop-krate l = SeenBelow (λ (x : CrateFlags). IsTrue x.is_member → (IsTrue x.is_current → ⊥) → x.id.now.name ≡ l.name → ⊥) l.flags l.krate-index
