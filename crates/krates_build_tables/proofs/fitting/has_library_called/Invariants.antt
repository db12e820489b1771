use Rattle.krates_cm.specs.Document.{target_view}
use Rattle.krates_cm.specs.declared.target.Target.{Target}
use Rattle.krates_rules.proofs.Seen.{SeenBelow}
use Rattle.krates_build_tables.specs.Pairs.{IsLibraryCalled}
use Rattle.krates_build_tables.proofs.fitting.has_library_called.Given as goal

-- none so far is one
abbrev pub invariant-loop-target : goal.invariant-loop-target
invariant-loop-target l = SeenBelow (λ (t : Target). IsLibraryCalled l.name (target_view t) → ⊥) l.targets l.target-index
