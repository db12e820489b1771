use Rattle.std.proofs.Common.{◌≡◌}
use Rattle.krates_ids.specs.Identity.{Identity}
use Rattle.krates_rules.specs.Resolved.{id_of}
use Rattle.krates_rules.proofs.Seen.{SeenBelow}
use Rattle.krates_build_tables.proofs.selection.is_among.Given as goal

-- no id so far is this one
abbrev pub invariant-loop-other : goal.invariant-loop-other
invariant-loop-other l = SeenBelow (λ (other : Identity). id_of other ≡ id_of l.id → ⊥) l.ids l.other-index
