use Rattle.std.proofs.Common.{◌≡◌}
use Rattle.krates_cm.specs.Document.{dep_kind_info_view}
use Rattle.krates_cm.specs.declared.resolve.DepKindInfo.{DepKindInfo}
use Rattle.krates_rules.proofs.Seen.{SeenBelow}
use Rattle.krates_questions.proofs.questions.lists.Given as goal

-- no element so far has this kind and this target
abbrev pub invariant-loop-other : goal.invariant-loop-other
invariant-loop-other l = SeenBelow (λ (other : DepKindInfo). dep_kind_info_view other ≡ dep_kind_info_view l.info → ⊥) l.other-items l.other-index
