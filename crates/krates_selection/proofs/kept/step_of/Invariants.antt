use Rattle.std.proofs.Common.{◌≡◌}
use Rattle.std.specs.List.{AllWithin}
use Rattle.krates_selection.specs.KeptFacts.{kept_view, subject_view}
use Rattle.krates_selection.specs.declared.kept.KeptStep.{KeptStep}
use Rattle.krates_selection.proofs.kept.step_of.Given as goal

-- no step so far has this fact
abbrev pub invariant-loop-number : goal.invariant-loop-number
invariant-loop-number l = AllWithin (λ (x : KeptStep). kept_view x.fact ≡ subject_view l.subject → ⊥) l.steps 0 l.number
