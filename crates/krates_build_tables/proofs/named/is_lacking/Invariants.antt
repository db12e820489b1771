use Rattle.krates_rules.proofs.Seen.{SeenBelow}
use Rattle.krates_units.specs.Answered.{TakesLacking}
use Rattle.krates_build_tables.specs.References.{reference_view}
use Rattle.krates_build_tables.specs.RequestsFlags.{flagged}
use Rattle.krates_build_tables.specs.Unanswered.{model_taking, setting_taking}
use Rattle.krates_build_tables.specs.declared.selection.CrateFlags.{CrateFlags}
use Rattle.krates_build_tables.proofs.named.is_lacking.Given as goal

-- no crate so far takes of the reference what it doesn't have
abbrev pub invariant-loop-krate : goal.invariant-loop-krate
invariant-loop-krate l = SeenBelow (λ (x : CrateFlags). TakesLacking (model_taking l.taking) (setting_taking l.taking) (reference_view l.given) (flagged x) → ⊥) l.krate-items l.krate-index
