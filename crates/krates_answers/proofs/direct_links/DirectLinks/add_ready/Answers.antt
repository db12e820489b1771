use Rattle.std.proofs.Common.{◌∙◌, ◌<◌, arith, length, sym, true≢false}
use Rattle.krates_answers.proofs.OrderLemmas.{told_more, told_same}
use Rattle.krates_answers.proofs.direct_links.DirectLinks.add_ready.Goals as goal
use Rattle.krates_answers.proofs.direct_links.DirectLinks.add_ready.Goals.{else-has_needs_marked, then-has_needs_marked+in_ok-insert}

pub loop-number-preserved : goal.loop-number-preserved
loop-number-preserved c =
    let l = c.loop-number in
    let a = c.args in
    let number = c.number-item.result in
    let lt : l.number-index < length a.numbers.now = omega (arith, c.loop-number-test.true) in
    let told = c.has_needs_marked.ensures in
    elim c.if-has_needs_marked.branch [
      | then-has_needs_marked+in_ok-insert w ↦ rw w.ready-is (told_more a.self.now a.marks.now a.numbers.now l.number-index number a.ready.now l.ready l.invariant lt c.number-item.is w.insert.new.self (told.0 w.if-has_needs_marked.true) w.in_ok-insert.ensures.updates.0)
      | else-has_needs_marked w ↦ rw w.ready-is (told_same a.self.now a.marks.now a.numbers.now l.number-index number a.ready.now l.ready l.invariant lt c.number-item.is (λ has. true≢false (sym (told.1 has) ∙ w.if-has_needs_marked.false)))
    ]
