use Rattle.krates_cm.specs.Document.{target_view}
use Rattle.krates_cm.specs.declared.target.Target.{Target}
use Rattle.krates_rules.proofs.Seen.{SeenBelow}
use Rattle.krates_units.specs.BuildTargets.{IsScript}
use Rattle.krates_build_tables.proofs.targets.some_script.Given as goal

-- none so far is one
abbrev pub invariant-loop-target : goal.invariant-loop-target
invariant-loop-target l = SeenBelow (λ (t : Target). IsScript (target_view t) → ⊥) l.targets l.target-index
