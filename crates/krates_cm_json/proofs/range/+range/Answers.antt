use Rattle.std.proofs.Common.{arith}
use Rattle.krates_cm_json.proofs.RangeLemmas.{members_from}
use Rattle.krates_cm_json.proofs.range.+range.Goals as goal

pub are_members_in_range-loop-member-preserved : goal.are_members_in_range-loop-member-preserved
are_members_in_range-loop-member-preserved t c =
    let l = c.loop-member in
    let step = members_from l.member-index c.deref-member-items.result.now c.member-item.result (omega arith) c.member-item.is in
    (λ rest. l.invariant.0 (step.1 (c.is_in_range.ensures.0 (grind arith), rest)), λ all. (step.0 (l.invariant.1 all)).1)
