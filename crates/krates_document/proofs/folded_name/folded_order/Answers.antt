use Rattle.std.proofs.Common.{◌≡◌, ◌<◌, ◌≤◌, ◌+◌, ◌⊎◌, length, drop, Equal, sym, ap, ◌∙◌, inl, inr, arith}
use Rattle.krates_cm.specs.Document.{Text}
use Rattle.krates_document.specs.FoldedNames.{folded_order}
use Rattle.krates_document.proofs.FoldedNames.{decided, end_order, step_more}
use Rattle.krates_document.proofs.folded_name.folded_order.Goals.{then-ours-theirs, else-ours-theirs}
use Rattle.krates_document.proofs.folded_name.folded_order.Goals as goal

pub loop-at-preserved : goal.loop-at-preserved
loop-at-preserved c =
    let ours = c.as_bytes-ours.result.now in
    let theirs = c.as_bytes-theirs.result.now in
    let low : c.loop-at.at < length ours = elim c.if-ours-theirs.branch [ then-ours-theirs w ↦ omega (arith, c.loop-at-test.true, w.shared-is, w.if-ours-theirs) | else-ours-theirs w ↦ omega (arith, c.loop-at-test.true, w.shared-is, w.if-ours-theirs) ] in
    let below : c.loop-at.at < length theirs = elim c.if-ours-theirs.branch [ then-ours-theirs w ↦ omega (arith, c.loop-at-test.true, w.shared-is, w.if-ours-theirs) | else-ours-theirs w ↦ omega (arith, c.loop-at-test.true, w.shared-is, w.if-ours-theirs) ] in
    let step = step_more ours theirs c.loop-at.at c.folded_byte.result c.folded_byte-in-loop-at.result Equal low below c.folded_byte.ensures c.folded_byte-in-loop-at.ensures (sym c.in-Equal.is ∙ c.cmp.ensures) in
    sym step ∙ c.loop-at.invariant

pub returns-in_default : goal.returns-in_default
returns-in_default c =
    let ours = c.as_bytes-ours.result.now in
    let theirs = c.as_bytes-theirs.result.now in
    let low : c.loop-at.at < length ours = elim c.if-ours-theirs.branch [ then-ours-theirs w ↦ omega (arith, c.loop-at-test.true, w.shared-is, w.if-ours-theirs) | else-ours-theirs w ↦ omega (arith, c.loop-at-test.true, w.shared-is, w.if-ours-theirs) ] in
    let below : c.loop-at.at < length theirs = elim c.if-ours-theirs.branch [ then-ours-theirs w ↦ omega (arith, c.loop-at-test.true, w.shared-is, w.if-ours-theirs) | else-ours-theirs w ↦ omega (arith, c.loop-at-test.true, w.shared-is, w.if-ours-theirs) ] in
    let step = step_more ours theirs c.loop-at.at c.folded_byte.result c.folded_byte-in-loop-at.result c.cmp.result low below c.folded_byte.ensures c.folded_byte-in-loop-at.ensures c.cmp.ensures in
    sym (decided c.cmp.result (folded_order (drop (c.loop-at.at + 1) ours) (drop (c.loop-at.at + 1) theirs)) c.in_default.not-Equal) ∙ sym step ∙ c.loop-at.invariant
    ∙ ap (λ (t : Text). folded_order t theirs) c.as_bytes-ours.ensures.value ∙ ap (folded_order c.args.one.now) c.as_bytes-theirs.ensures.value

pub returns : goal.returns
returns c =
    let ours = c.as_bytes-ours.result.now in
    let theirs = c.as_bytes-theirs.result.now in
    let at = c.loop-at.at in
    let end : (at ≤ length ours) × (at ≤ length theirs) × ((at ≡ length ours) ⊎ (at ≡ length theirs)) = elim c.if-ours-theirs.branch [
      | then-ours-theirs w ↦ (
          let is : at ≡ length ours = omega (arith, c.loop-at-test.false, c.loop-at.auto.at-end, w.shared-is) in
          (omega (arith, is), omega (arith, is, w.if-ours-theirs), inl is))
      | else-ours-theirs w ↦ (
          let is : at ≡ length theirs = omega (arith, c.loop-at-test.false, c.loop-at.auto.at-end, w.shared-is) in
          (omega (arith, is, w.if-ours-theirs), omega (arith, is), inr is))
    ] in
    c.cmp-2.ensures ∙ sym (end_order ours theirs at end.0 end.1 end.2) ∙ c.loop-at.invariant
    ∙ ap (λ (t : Text). folded_order t theirs) c.as_bytes-ours.ensures.value ∙ ap (folded_order c.args.one.now) c.as_bytes-theirs.ensures.value
