use Rattle.std.proofs.Common.{◌≡◌, arith, refl}
use Rattle.krates_rules.specs.Facts.{Id}
use Rattle.krates_rules.specs.Resolved.{id_of}
use Rattle.krates_rules.proofs.Seen.{each_seen}
use Rattle.krates_build_tables.proofs.selection.is_among.Goals as goal

pub returns : goal.returns
returns c =
    let id = id_of c.args.id.now in (
      λ t. absurd cc,
      λ h. absurd (each_seen id_of (λ (other : Id). other ≡ id → ⊥) c.args.ids.now c.args.ids.now c.loop-other.other-index refl (omega arith) c.loop-other.invariant id h refl),
    )
