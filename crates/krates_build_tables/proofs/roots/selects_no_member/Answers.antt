use Rattle.std.proofs.Common.{IsTrue, arith, refl}
use Rattle.krates_build_tables.specs.declared.selection.CrateFlags.{CrateFlags}
use Rattle.krates_build_tables.proofs.SeenFlags.{contains_item, seen_in}
use Rattle.krates_build_tables.proofs.roots.selects_no_member.Goals as goal

pub returns : goal.returns
returns c = (
  λ t. seen_in (λ (x : CrateFlags). IsTrue x.is_member → IsTrue x.is_selected → ⊥) c.args.flags.now c.loop-krate.krate-index (omega arith) c.loop-krate.invariant,
  λ h. refl,
)

pub returns-then-krate-2 : goal.returns-then-krate-2
returns-then-krate-2 c = (
  λ t. absurd cc,
  λ none. absurd (none c.krate-item.result (contains_item c.args.flags.now c.loop-krate.krate-index c.krate-item.result (omega arith) c.krate-item.is) c.if-krate.true c.if-krate-2.true),
)
