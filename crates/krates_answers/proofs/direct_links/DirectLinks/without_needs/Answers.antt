use Rattle.std.proofs.Common.{◌≡◌, ◌∙◌, ◌<◌, ℕ, arith, cond, length, subst, sym, true, true≢false}
use Rattle.std.specs.BTreeMap.{is_at}
use Rattle.std.specs.BTreeSet.{contains}
use Rattle.std.specs.Ordering.{nat_cmp}
use Rattle.krates_answers.proofs.OrderLemmas.{first_more_below, first_same_below}
use Rattle.krates_answers.proofs.direct_links.DirectLinks.without_needs.Goals as goal
use Rattle.krates_answers.proofs.direct_links.DirectLinks.without_needs.Goals.{else-has_needs_marked, then-has_needs_marked+in_ok-insert}

pub loop-number-preserved : goal.loop-number-preserved
loop-number-preserved c =
    let l = c.loop-number in
    let lists = c.args.self.now in
    let told = rw c.new-number.ensures at c.has_needs_marked.ensures in
    let lt : l.number < length lists = omega (arith, c.loop-number-test.true, c.len-number-end.ensures.count) in
    elim c.if-has_needs_marked.branch [
      | then-has_needs_marked+in_ok-insert w ↦ rw w.ready-is (first_more_below lists l.number lt l.ready l.invariant w.insert.new.self (told.0 w.if-has_needs_marked.true)
          (subst (λ (k : ℕ). (q : ℕ) → contains nat_cmp w.insert.new.self q ≡ cond (is_at (nat_cmp k) q) true (contains nat_cmp l.ready q)) c.new-number.ensures w.in_ok-insert.ensures.updates.0))
      | else-has_needs_marked w ↦ rw w.ready-is (first_same_below lists l.number lt l.ready l.invariant (λ has. true≢false (sym (told.1 has) ∙ w.if-has_needs_marked.false)))
    ]
