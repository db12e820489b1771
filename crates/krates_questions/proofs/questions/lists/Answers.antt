use Rattle.std.proofs.Common.{◌≡◌, arith, refl}
use Rattle.krates_cm.specs.Document.{DepKindInfoModel, dep_kind_info_view}
use Rattle.krates_rules.proofs.Seen.{each_seen}
use Rattle.krates_questions.proofs.questions.lists.Goals as goal

pub returns : goal.returns
returns c =
    let k = dep_kind_info_view c.args.info.now in (
      λ t. absurd cc,
      λ h. absurd (each_seen dep_kind_info_view (λ (other : DepKindInfoModel). other ≡ k → ⊥) c.as_slice-other-items.result.now c.args.dep.now.dep_kinds.items c.loop-other.other-index
          c.as_slice-other-items.ensures.value (omega arith) c.loop-other.invariant k h refl),
    )
