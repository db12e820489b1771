use Rattle.std.proofs.Common.{◌≡◌, IsTrue, arith}
use Rattle.krates_build_tables.specs.declared.selection.CrateFlags.{CrateFlags}
use Rattle.krates_build_tables.proofs.SeenFlags.{seen_in}
use Rattle.krates_build_tables.proofs.taken.names_selected.Goals as goal

pub returns : goal.returns
returns c = (
  λ t. absurd cc,
  λ h. absurd (seen_in (λ (x : CrateFlags). IsTrue x.is_selected → x.id.now.name ≡ c.args.name.now → ⊥) c.args.flags.now c.loop-krate.krate-index (omega arith) c.loop-krate.invariant h.krate h.among h.selected h.named),
)
