use Rattle.std.proofs.Common.{refl, arith}
use Rattle.krates_cm.specs.Document.{TargetModel, target_view}
use Rattle.krates_cm.specs.declared.target.Target.{Target}
use Rattle.krates_rules.proofs.Seen.{each_seen, seen_more}
use Rattle.krates_rules.proofs.Zips.{one_seen}
use Rattle.krates_build_tables.specs.Pairs.{IsLibraryCalled}
use Rattle.krates_build_tables.proofs.fitting.has_library_called.Goals as goal

pub returns : goal.returns
returns c = (
  λ t. absurd cc,
  λ h. absurd (each_seen target_view (λ (t : TargetModel). IsLibraryCalled c.args.name.now t → ⊥) c.args.targets.now c.args.targets.now c.loop-target.target-index refl (omega arith) c.loop-target.invariant h.0 h.1 h.2),
)

pub returns-then-is_library_called : goal.returns-then-is_library_called
returns-then-is_library_called c =
    (λ _. (target_view c.target-item.result, one_seen target_view c.args.targets.now c.loop-target.target-index c.target-item.result (omega arith) c.target-item.is, c.is_library_called.ensures.0 c.if-is_library_called.true), λ _. refl)

pub loop-target-preserved : goal.loop-target-preserved
loop-target-preserved c =
    seen_more (λ (t : Target). IsLibraryCalled c.args.name.now (target_view t) → ⊥) c.args.targets.now c.loop-target.target-index c.target-item.result (omega arith) c.target-item.is c.loop-target.invariant
    (λ h. let t = c.is_library_called.ensures.1 h in absurd cc)
