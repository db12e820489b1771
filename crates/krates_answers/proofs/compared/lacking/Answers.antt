use Rattle.std.proofs.Common.{◌∙◌, ◌<◌, ◌++◌, ◌∷◌, [], ap, arith, length, sym, true≢false}
use Rattle.krates_answers.proofs.TakenLemmas.{taken_itself, taken_leaves}
use Rattle.krates_answers.proofs.WalkedLists.{those_none}
use Rattle.krates_answers.proofs.compared.lacking.Goals as goal
use Rattle.krates_answers.proofs.compared.lacking.Goals.{else-not-has_same, then-not-has_same+in_ok-push}

pub loop-part-init : goal.loop-part-init
loop-part-init g c = those_none c.new-lacking.result.items c.new-lacking.ensures.items

pub loop-part-preserved : goal.loop-part-preserved
loop-part-preserved g c =
    let l = c.loop-part in
    let parts = c.args.parts.now in
    let part = c.part-item.result in
    let lt : l.part-index < length parts = omega (arith, c.loop-part-test.true) in
    let told = c.has_same.ensures c.args.others.now c.in_ok-named.ensures in
    elim c.if-not-has_same.branch [
      | then-not-has_same+in_ok-push w ↦
          taken_itself parts l.part-index part l.lacking.items c.if-not-has_same.lacking.items lt c.part-item.is l.invariant (λ h. true≢false (sym (told.1 h) ∙ w.if-not-has_same.true))
          (ap (λ v. v.items) w.lacking-is ∙ w.in_ok-push.ensures ∙ ap (λ x. l.lacking.items ++ x ∷ []) w.again.ensures)
      | else-not-has_same w ↦ rw w.lacking-is (taken_leaves parts l.part-index part l.lacking.items lt c.part-item.is l.invariant (λ lacks. lacks (told.0 w.if-not-has_same.false)))
    ]
