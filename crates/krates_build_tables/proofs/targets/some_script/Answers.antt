use Rattle.std.proofs.Common.{refl, arith}
use Rattle.krates_cm.specs.Document.{TargetModel, target_view}
use Rattle.krates_cm.specs.declared.target.Target.{Target}
use Rattle.krates_rules.proofs.Seen.{each_seen, seen_more}
use Rattle.krates_rules.proofs.Zips.{one_seen}
use Rattle.krates_units.specs.BuildTargets.{IsScript}
use Rattle.krates_build_tables.proofs.targets.some_script.Goals as goal

pub returns : goal.returns
returns c = (
  λ t. absurd cc,
  λ h. absurd (each_seen target_view (λ (t : TargetModel). IsScript t → ⊥) c.args.targets.now c.args.targets.now c.loop-target.target-index refl (omega arith) c.loop-target.invariant h.0 h.1 h.2),
)

pub loop-target-preserved : goal.loop-target-preserved
loop-target-preserved c =
    let l = c.loop-target in
    seen_more (λ (t : Target). IsScript (target_view t) → ⊥) c.args.targets.now l.target-index c.target-item.result (omega arith) c.target-item.is l.invariant
    (λ h. let t = c.is_script.ensures.1 h in absurd cc)

pub returns-then-is_script : goal.returns-then-is_script
returns-then-is_script c =
    (λ _. (target_view c.target-item.result, one_seen target_view c.args.targets.now c.loop-target.target-index c.target-item.result (omega arith) c.target-item.is, c.is_script.ensures.0 c.if-is_script.true), λ _. refl)
